use Rattle.std.proofs.Common.{ℕ, List, ◌-◌, ◌%◌, ◌/◌, sym, ap, ◌∙◌, arith}
use Rattle.std.proofs.Math.ListN.{length, drop, length-drop}
use lib.Seq.{take_all}
use Rattle.laws.specs.Lists.{lay}
use Rattle.records.specs.Record.{touches_of}
use Rattle.records.proofs.BodyLaws.{length_touches}
use Rattle.records.proofs.CheckLaws.{is_touches}
use Rattle.records.proofs.ReadLaws.{is_checked}
use Rattle.records.proofs.reading.check_record.Goals as goal

pub returns : goal.returns
returns c =
    let r = c.args.bytes.now in
    let o = c.of_two-n in
    let old = c.args.room.now in
    is_checked c.args.version r ((o.result - 1) / 2) old (omega (arith, o.ensures, length_touches (drop 3 r), length-drop 3 r))
    (c.unpack.ensures ∙ ap (λ (b : List ℕ). lay 0 (touches_of b) old) (take_all (length r - 3) (drop 3 r) (omega (arith, length-drop 3 r))))
    c.check.ensures
    (is_touches c.args.version r c.if-bytes-lt3.false (sym o.ensures ∙ c.if-n-bytes.false) c.if-bytes-version.false (ap (λ (k : ℕ). (k - 1) % 6) (sym o.ensures) ∙ c.if-n-ne0.false))

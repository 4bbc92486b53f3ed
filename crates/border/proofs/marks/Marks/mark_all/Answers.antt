use Rattle.std.proofs.Common.{◌∙◌, rules}
use Rattle.border.proofs.MarkLaws.{side_over, face_end, all_marked, all_fresh}
use Rattle.border.proofs.marks.Marks.mark_all.Goals as goal

pub place-at-requires : goal.place-at-requires
place-at-requires c =
    rw (c.loop-s.invariant.0, c.loop-f.invariant.0) (side_over c.requires.1 c.loop-f.f-index (search rules) c.sides_of-s-items.ensures c.loop-s.s-index c.s-item.result (search rules))

pub returns : goal.returns
returns c =
    let a = c.args in
    let l = c.loop-f in
    let h = c.requires in
    let t = a.self.now.fits in
    let e = l.invariant.2 ∙ face_end a.self.now.width a.k.touch.0 a.seen.now l.f-index l.self.table.now (search rules) in
    record { marked = all_marked t h.0 h.1 e; fresh = all_fresh t h.0 h.1 e; same_table = l.invariant.1; same_width = l.invariant.0 }

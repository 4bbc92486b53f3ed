use Rattle.std.proofs.Common.{◌∙◌, arith}
use Rattle.records.proofs.TableLaws.{put_is}
use Rattle.records.proofs.writing.put_two.Goals as goal

pub returns : goal.returns
returns c =
    let e = c.copy_from_slice.ensures.after ∙ c.to_be_bytes.ensures in
    record {
      next = omega arith;
      table = rw e (put_is c.args.at _ _ _ (omega arith));
    }

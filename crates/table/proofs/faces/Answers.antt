use Rattle.std.proofs.Common.{◌∙◌}
use Rattle.table.proofs.TableLaws.{chunks_faces}
use Rattle.table.proofs.faces.Goals as goal

pub returns : goal.returns
returns c = c.as_chunks.ensures.front ∙ chunks_faces c.args.faces.now

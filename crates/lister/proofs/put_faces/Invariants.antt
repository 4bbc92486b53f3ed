-- The loop's invariant: the lines of the faces before this one are put.
use Rattle.std.proofs.Common.{◌+◌, ◌*◌, ◌≤◌, ◌≡◌, ◌++◌, length, take}
use Rattle.lister.specs.Listing.{face_lines}
use Rattle.lister.specs.Room.{face_room}
use Rattle.lister.proofs.put_faces.Given as goal

abbrev pub invariant-loop-f : goal.invariant-loop-f
invariant-loop-f l = (length l.lines ≤ length l.fn.lines + l.f-index * face_room) × (l.lines ≡ l.fn.lines ++ face_lines (take l.f-index l.faces))

use Rattle.hull.proofs.BuildLaws.{front_asked, front_builds}
use Rattle.hull.proofs.rooms.build_in.Goals as goal

pub write_hull-requires : goal.write_hull-requires
write_hull-requires g c = front_asked c.requires.0 c.raise.ensures.taken c.count.ensures.sound

pub returns : goal.returns
returns g c = front_builds c.requires.0 c.raise.ensures.taken c.write_hull.ensures

use Rattle.sn_world.proofs.Making.{makes_live}
use Rattle.sn_world.proofs.laws.makes_live.Goals as goal

pub returns : goal.returns
returns c = makes_live c.one_stamp.ensures c.versions_rise.ensures c.stale_behind.ensures

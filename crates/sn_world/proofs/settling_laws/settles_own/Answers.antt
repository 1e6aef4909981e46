use Rattle.sn_world.proofs.Settling.{settles_own}
use Rattle.sn_world.proofs.settling_laws.settles_own.Goals as goal

pub returns : goal.returns
returns c = settles_own c.one_stamp.ensures c.one_content.ensures c.settled_shows.ensures

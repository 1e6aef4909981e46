use Rattle.sn_world.proofs.Settling.{settles_gone}
use Rattle.sn_world.proofs.settling_laws.settles_gone.Goals as goal

pub returns : goal.returns
returns c = settles_gone c.one_stamp.ensures c.one_content.ensures

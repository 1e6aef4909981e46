use Rattle.sn_world.proofs.Applied.{applies_live}
use Rattle.sn_world.proofs.settling_laws.applies_live.Goals as goal

pub returns : goal.returns
returns c = applies_live

use Rattle.sn_world.proofs.ServedRegister.{registered_begins}
use Rattle.sn_world.proofs.laws.registered_begins.Goals as goal

pub returns : goal.returns
returns c = registered_begins

use Rattle.sn_adopted.proofs.Adopting.{adopt_holds}
use Rattle.sn_adopted.proofs.laws.adopt_holds.Goals as goal

pub returns : goal.returns
returns c = adopt_holds

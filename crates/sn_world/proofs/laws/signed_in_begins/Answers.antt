use Rattle.sn_world.proofs.SignedIn.{signed_in_begins}
use Rattle.sn_world.proofs.laws.signed_in_begins.Goals as goal

pub returns : goal.returns
returns c = signed_in_begins

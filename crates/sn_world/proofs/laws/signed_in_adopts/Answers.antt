use Rattle.sn_world.proofs.SignedIn.{signed_in_adopts}
use Rattle.sn_world.proofs.laws.signed_in_adopts.Goals as goal

pub returns : goal.returns
returns c = signed_in_adopts c.accounts_apart.ensures

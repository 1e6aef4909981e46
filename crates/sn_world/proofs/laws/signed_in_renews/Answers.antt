use Rattle.sn_world.proofs.SignedIn.{signed_in_renews}
use Rattle.sn_world.proofs.laws.signed_in_renews.Goals as goal

pub returns : goal.returns
returns c = signed_in_renews c.accounts_apart.ensures

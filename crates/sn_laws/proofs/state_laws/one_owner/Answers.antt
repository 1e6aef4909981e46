use Rattle.sn_laws.proofs.OwnerLemmas.{one_owner}
use Rattle.sn_laws.proofs.state_laws.one_owner.Goals as goal

pub returns : goal.returns
returns c = one_owner

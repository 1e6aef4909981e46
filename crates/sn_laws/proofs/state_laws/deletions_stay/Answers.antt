use Rattle.sn_laws.proofs.DeletionLemmas.{deletions_all_stay}
use Rattle.sn_laws.proofs.state_laws.deletions_stay.Goals as goal

pub returns : goal.returns
returns c = deletions_all_stay

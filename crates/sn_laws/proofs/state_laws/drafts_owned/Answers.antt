use Rattle.sn_laws.proofs.OwnedLemmas.{drafts_all_owned}
use Rattle.sn_laws.proofs.state_laws.drafts_owned.Goals as goal

pub returns : goal.returns
returns c = drafts_all_owned

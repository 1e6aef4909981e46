use Rattle.sn_laws.proofs.PostedLemmas.{posted_only_once}
use Rattle.sn_laws.proofs.state_laws.posted_once.Goals as goal

pub returns : goal.returns
returns c = posted_only_once

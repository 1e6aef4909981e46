use Rattle.sn_laws.proofs.RunLemmas.{refused_there}
use Rattle.sn_laws.proofs.laws.first_refused.Goals as goal

pub returns : goal.returns
returns c = refused_there

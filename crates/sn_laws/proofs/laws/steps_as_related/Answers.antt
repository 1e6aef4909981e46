use Rattle.sn_laws.proofs.RelatedLemmas.{steps}
use Rattle.sn_laws.proofs.laws.steps_as_related.Goals as goal

pub returns : goal.returns
returns c = steps

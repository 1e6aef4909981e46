use Rattle.sn_laws.proofs.RelatedLemmas.{allowed_from, allowed_to}
use Rattle.sn_laws.proofs.laws.allows_as_related.Goals as goal

pub returns : goal.returns
returns c = λ s m. (allowed_from s m, allowed_to s m)

use Rattle.sn_laws.proofs.RelatedLemmas.{one_next}
use Rattle.sn_laws.proofs.laws.one_next.Goals as goal

pub returns : goal.returns
returns c = one_next

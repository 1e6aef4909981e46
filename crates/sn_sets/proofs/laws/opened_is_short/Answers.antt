use Rattle.sn_sets.proofs.SealedLemmas.{opened_is_short}
use Rattle.sn_sets.proofs.laws.opened_is_short.Goals as goal

pub returns : goal.returns
returns c = opened_is_short

use Rattle.sn_laws.specs.Lookups.{empty}
use Rattle.sn_laws.proofs.RunLemmas.{none_then_legal, legal_then_none}
use Rattle.sn_laws.proofs.laws.none_refused.Goals as goal

pub returns : goal.returns
returns c = λ ms. (none_then_legal 0 empty ms, legal_then_none 0 empty ms)

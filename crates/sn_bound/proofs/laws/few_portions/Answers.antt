use Rattle.sn_bound.proofs.PortionLemmas.{few_portions}
use Rattle.sn_bound.proofs.laws.few_portions.Goals as goal

pub returns : goal.returns
returns c = few_portions

use Rattle.sn_bound.proofs.DivisionLemmas.{one_division}
use Rattle.sn_bound.proofs.laws.one_division.Goals as goal

pub returns : goal.returns
returns c = one_division

use Rattle.sn_sets.proofs.SetLemmas.{one_held}
use Rattle.sn_sets.proofs.laws.one_held.Goals as goal

pub returns : goal.returns
returns c = one_held

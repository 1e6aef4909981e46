use Rattle.sn_bound.proofs.WholeLemmas.{exchange_begins}
use Rattle.sn_bound.proofs.laws.whole_begins.Goals as goal

pub returns : goal.returns
returns c = exchange_begins

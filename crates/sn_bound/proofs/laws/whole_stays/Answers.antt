use Rattle.sn_bound.proofs.WholeLemmas.{exchange_stays}
use Rattle.sn_bound.proofs.laws.whole_stays.Goals as goal

pub returns : goal.returns
returns c = exchange_stays c.one_account.ensures c.one_token.ensures

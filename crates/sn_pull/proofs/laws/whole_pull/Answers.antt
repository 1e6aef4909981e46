use Rattle.sn_pull.proofs.EndLemmas.{whole_pull}
use Rattle.sn_pull.proofs.laws.whole_pull.Goals as goal

pub returns : goal.returns
returns c = whole_pull c.one_stamp.ensures c.one_token.ensures c.one_account.ensures

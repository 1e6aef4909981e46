use Rattle.sn_pull.proofs.GoesOnLemmas.{pull_goes_on}
use Rattle.sn_pull.proofs.laws.pull_goes_on.Goals as goal

pub returns : goal.returns
returns c = pull_goes_on c.one_stamp.ensures c.one_token.ensures c.one_account.ensures

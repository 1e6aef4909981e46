use Rattle.sn_bound.proofs.WholeCalls.{change_whole}
use Rattle.sn_bound.proofs.laws.whole_changes.Goals as goal

pub returns : goal.returns
returns c = change_whole c.one_account.ensures

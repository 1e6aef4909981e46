use Rattle.sn_bound.proofs.WholeCalls.{second_whole}
use Rattle.sn_bound.proofs.laws.second_whole.Goals as goal

pub returns : goal.returns
returns c = second_whole c.one_account.ensures c.one_token.ensures c.stays_sound.ensures

use Rattle.sn_moves.proofs.OneSaid.{says_answered}
use Rattle.sn_moves.proofs.laws.says_answered.Goals as goal

pub returns : goal.returns
returns c = says_answered c.one_stamp.ensures c.stay_standing.ensures

use Rattle.sn_moves.proofs.OneSaid.{says_one}
use Rattle.sn_moves.proofs.laws.says_one.Goals as goal

pub returns : goal.returns
returns c = says_one c.says_answered.ensures c.says_plainly.ensures

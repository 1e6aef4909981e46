use Rattle.sn_moves.proofs.OneSaid.{says_plainly}
use Rattle.sn_moves.proofs.laws.says_plainly.Goals as goal

pub returns : goal.returns
returns c = says_plainly

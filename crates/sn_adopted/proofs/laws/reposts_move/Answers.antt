use Rattle.sn_adopted.proofs.Reposted.{reposts_move}
use Rattle.sn_adopted.proofs.laws.reposts_move.Goals as goal

pub returns : goal.returns
returns c = reposts_move

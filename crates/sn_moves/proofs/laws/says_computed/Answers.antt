use Rattle.sn_moves.proofs.OneSaid.{says_computed}
use Rattle.sn_moves.proofs.laws.says_computed.Goals as goal

pub returns : goal.returns
returns c = says_computed c.deletions_stay.ensures c.says_one.ensures c.says_some.ensures c.plain_rows.ensures

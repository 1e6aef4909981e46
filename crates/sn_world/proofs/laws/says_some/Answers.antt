use Rattle.sn_world.proofs.Said.{says_some}
use Rattle.sn_world.proofs.laws.says_some.Goals as goal

pub returns : goal.returns
returns c = says_some c.accounts_apart.ensures

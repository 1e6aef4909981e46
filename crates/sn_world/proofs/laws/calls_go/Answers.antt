use Rattle.sn_world.proofs.CallLemmas.{calls_go}
use Rattle.sn_world.proofs.laws.calls_go.Goals as goal

pub returns : goal.returns
returns c = calls_go c.keeps.ensures c.says_some.ensures

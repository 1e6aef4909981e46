use Rattle.sn_changed.proofs.ItemsBehind.{change_behind}
use Rattle.sn_changed.proofs.leaving_laws.change_behind.Goals as goal

pub returns : goal.returns
returns c = change_behind

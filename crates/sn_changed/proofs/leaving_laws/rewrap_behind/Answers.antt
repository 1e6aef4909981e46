use Rattle.sn_changed.proofs.ItemsBehind.{rewrap_behind}
use Rattle.sn_changed.proofs.leaving_laws.rewrap_behind.Goals as goal

pub returns : goal.returns
returns c = rewrap_behind

use Rattle.sn_changed.proofs.ItemsBehind.{none_is_behind}
use Rattle.sn_changed.proofs.leaving_laws.none_is_behind.Goals as goal

pub returns : goal.returns
returns c = none_is_behind

use Rattle.sn_order.proofs.Telling.{kinds_tell}
use Rattle.sn_order.proofs.laws.kinds_tell.Goals as goal

pub returns : goal.returns
returns c = kinds_tell

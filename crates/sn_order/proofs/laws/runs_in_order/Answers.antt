use Rattle.sn_order.proofs.Calls.{runs_in_order}
use Rattle.sn_order.proofs.laws.runs_in_order.Goals as goal

pub returns : goal.returns
returns c = runs_in_order

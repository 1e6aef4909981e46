use Rattle.sn_rows.specs.Facts.{keys_in_order}
use Rattle.sn_rows.proofs.laws.keys_in_order.Goals as goal

pub returns : goal.returns
returns c = keys_in_order

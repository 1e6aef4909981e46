use Rattle.sn_rows.specs.Facts.{keys_compare}
use Rattle.sn_rows.proofs.laws.keys_compare.Goals as goal

pub returns : goal.returns
returns c = keys_compare

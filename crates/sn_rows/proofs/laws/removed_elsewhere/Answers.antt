use Rattle.sn_rows.specs.Facts.{removed_elsewhere}
use Rattle.sn_rows.proofs.laws.removed_elsewhere.Goals as goal

pub returns : goal.returns
returns c = removed_elsewhere

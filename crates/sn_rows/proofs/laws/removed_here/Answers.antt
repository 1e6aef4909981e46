use Rattle.sn_rows.specs.Facts.{removed_here}
use Rattle.sn_rows.proofs.laws.removed_here.Goals as goal

pub returns : goal.returns
returns c = removed_here

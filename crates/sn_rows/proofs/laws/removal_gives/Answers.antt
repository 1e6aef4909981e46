use Rattle.sn_rows.specs.Facts.{removal_gives}
use Rattle.sn_rows.proofs.laws.removal_gives.Goals as goal

pub returns : goal.returns
returns c = removal_gives

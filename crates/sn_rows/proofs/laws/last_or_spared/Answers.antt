use Rattle.sn_rows.specs.Facts.{last_or_spared}
use Rattle.sn_rows.proofs.laws.last_or_spared.Goals as goal

pub returns : goal.returns
returns c = last_or_spared

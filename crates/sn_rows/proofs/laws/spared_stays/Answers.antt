use Rattle.sn_rows.specs.Facts.{spared_stays}
use Rattle.sn_rows.proofs.laws.spared_stays.Goals as goal

pub returns : goal.returns
returns c = λ rows changes key s. spared_stays (rows key) key changes s

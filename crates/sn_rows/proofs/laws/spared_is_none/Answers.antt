use Rattle.std.proofs.Common.{None}
use Rattle.sn_rows.specs.Facts.{spared_stays}
use Rattle.sn_rows.proofs.laws.spared_is_none.Goals as goal

pub returns : goal.returns
returns c = λ changes key s. spared_stays None key changes s

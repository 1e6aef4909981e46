use Rattle.sn_rows.specs.Facts.{row_after-append}
use Rattle.sn_rows.proofs.laws.follows.Goals as goal

pub returns : goal.returns
returns c = λ rows first second key. row_after-append (rows key) key first second

use Rattle.sn_rows.specs.Facts.{batch_follows}
use Rattle.sn_rows.proofs.laws.batch_follows.Goals as goal

pub returns : goal.returns
returns c = batch_follows

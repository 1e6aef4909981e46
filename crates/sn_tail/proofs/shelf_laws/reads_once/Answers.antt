use Rattle.sn_tail.specs.Facts.{one_reads}
use Rattle.sn_tail.proofs.shelf_laws.reads_once.Goals as goal

pub returns : goal.returns
returns c = one_reads

use Rattle.sn_table.specs.Facts.{one_store}
use Rattle.sn_table.proofs.laws.one_store.Goals as goal

pub returns : goal.returns
returns c = one_store

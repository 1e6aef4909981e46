use Rattle.sn_table.specs.Batches.{IsAllOrNothing, IsStore}
use Rattle.sn_tail.specs.Facts.{so_now}
use Rattle.sn_tail.proofs.laws.stands_now.Goals as goal

pub returns-clause-at : goal.returns-clause-at
returns-clause-at c = λ disk owner batches each. so_now disk (λ file. IsStore owner file batches) each

pub returns-clause-either : goal.returns-clause-either
returns-clause-either c = λ disk owner batches changes each. so_now disk (IsAllOrNothing owner batches changes) each

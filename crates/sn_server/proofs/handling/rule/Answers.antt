use Rattle.std.specs.Prelude.{All, Result, Ok, Err, IfOk}
use Rattle.sn_account.specs.RuleBatch.{IsServerBatch}
use Rattle.sn_account.specs.declared.accounts.Ruled.{Ruled}
use Rattle.sn_journal.specs.declared.owner.Owner.TheVariants.{Server}
use Rattle.sn_table.specs.Batches.{IsOf}
use Rattle.sn_server.proofs.Owned.{batch_owns}
use Rattle.sn_server.proofs.handling.rule.Goals as goal

if_batch : {E : Type 0} (result : Result Ruled E) → IfOk result (λ ruled. IsServerBatch ruled.changes) → IfOk result (λ ruled. All (IsOf Server) ruled.changes)
if_batch (Ok ruled) batch = batch_owns ruled.changes batch
if_batch (Err error) batch = batch

pub returns-clause-owned : goal.returns-clause-owned
returns-clause-owned c = if_batch c.answer.result c.answer.ensures.batch

use Rattle.std.proofs.Common.{◌≡◌}
use Rattle.sn_journal.specs.declared.owner.Owner.TheVariants.{Server}
use Rattle.sn_table.specs.Tables.{table_owner}
use Rattle.sn_bench.proofs.table.committed.Given as goal

abbrev pub invariant-commits : goal.invariant-commits
invariant-commits l = table_owner l.table ≡ Server

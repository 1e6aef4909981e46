-- The accounts of the rows so far stand there.
use Rattle.std.proofs.Common.{length}
use Rattle.sn_row_map.specs.Steps.{lent}
use Rattle.sn_rows.specs.declared.kind.RowKind.TheVariants as kind
use Rattle.sn_account.specs.Names.{ListsRow}
use Rattle.sn_account.proofs.AllRows.{InRows}
use Rattle.sn_account.proofs.WalkLemmas.{left_of}
use Rattle.sn_account.proofs.names.Names.of_rows.Given as goal

abbrev pub invariant-accounts : goal.invariant-accounts
invariant-accounts l = InRows (ListsRow l.names) l.rows kind.Account (lent l.found)

abbrev pub decreases-accounts : goal.decreases-accounts
decreases-accounts l = length (left_of l.rows (lent l.found))

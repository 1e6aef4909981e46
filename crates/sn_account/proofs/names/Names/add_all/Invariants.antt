-- The accounts of the changes so far stand there.
use Rattle.std.proofs.Common.{ℕ, ◌<◌, slice_index_or}
use Rattle.sn_rows.specs.declared.change.Change.{Change}
use Rattle.sn_account.specs.Names.{KeepsListed, ListsChange}
use Rattle.sn_account.proofs.names.Names.add_all.Given as goal

abbrev pub invariant-changes : goal.invariant-changes
invariant-changes l = ((k : ℕ) (d : Change) → k < l.change-index → ListsChange l.self (slice_index_or l.changes k d)) × KeepsListed l.fn.self l.self

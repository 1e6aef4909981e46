-- The items of the changes so far stand there.
use Rattle.std.proofs.Common.{ℕ, ◌<◌, slice_index_or}
use Rattle.sn_rows.specs.declared.change.Change.{Change}
use Rattle.sn_local.specs.Index.{IndexesChange, KeepsIndexed}
use Rattle.sn_local.proofs.index.Index.add_all.Given as goal

abbrev pub invariant-changes : goal.invariant-changes
invariant-changes l = record {
  listed : (k : ℕ) (d : Change) → k < l.change-index → IndexesChange l.self (slice_index_or l.changes k d);
  kept : KeepsIndexed l.fn.self l.self;
}

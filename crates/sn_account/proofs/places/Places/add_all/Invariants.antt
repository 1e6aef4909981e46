-- The items of the changes so far have their places there.
use Rattle.std.proofs.Common.{ℕ, ◌<◌, slice_index_or}
use Rattle.sn_rows.specs.declared.change.Change.{Change}
use Rattle.sn_account.specs.Places.{KeepsPlaces, PlacesChange}
use Rattle.sn_account.proofs.places.Places.add_all.Given as goal

abbrev pub invariant-changes : goal.invariant-changes
invariant-changes l = ((k : ℕ) (d : Change) → k < l.change-index → PlacesChange l.self (slice_index_or l.changes k d)) × KeepsPlaces l.fn.self l.self

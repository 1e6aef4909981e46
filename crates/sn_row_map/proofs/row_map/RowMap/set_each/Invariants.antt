use Rattle.std.proofs.Common.{◌≡◌, ◌≤◌, ℕ, false, All, get_or, map, take}
use Rattle.sn_rows.specs.Table.{Spares, key_of, row_after}
use Rattle.sn_rows.specs.declared.change.Change.{Change}
use Rattle.sn_rows.specs.declared.key.Key.{Key}
use Rattle.sn_row_map.specs.RowMaps.{row_in, IsSwept, KeepsRoom, StaysSwept}
use Rattle.sn_row_map.proofs.row_map.RowMap.set_each.Given as goal

abbrev pub invariant-changes : goal.invariant-changes
invariant-changes l = record {
  rows : (key : Key) → row_in l.self key ≡ row_after (row_in l.fn.self key) key (take l.change-index l.fn.changes);
  kept : KeepsRoom l.fn.self l.self;
  others : (key : Key) → Spares key l.fn.changes → StaysSwept l.fn.self l.self key;
  swept : l.removed ≡ false → All (λ change. IsSwept l.self (key_of change)) (take l.change-index l.fn.changes);
  still : l.removed ≡ false → (key : Key) → StaysSwept l.fn.self l.self key;
  keys : map key_of l.changes ≡ map key_of l.fn.changes;
  later : (k : ℕ) (d : Change) → l.change-index ≤ k → get_or l.changes k d ≡ get_or l.fn.changes k d;
}

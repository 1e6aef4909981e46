-- Reading payloads as batches.
use Rattle.std.specs.Prelude.{◌≡◌, ◌-◌, ◌^◌, ℕ, List, ◌∷◌, ◌++◌, length, min, map, All}
use Rattle.std.specs.List.{flat_map}
use Rattle.sn_journal.specs.Image.{batch, front, IsBounded}
use Rattle.sn_journal.specs.declared.owner.Owner.{Owner}
use Rattle.sn_rows.specs.Spelling.{spelled}
use Rattle.sn_rows.specs.Table.{row_after, rows_of_batches}
use Rattle.sn_rows.specs.declared.change.Change.{Change}
use Rattle.sn_rows.specs.declared.key.Key.{Key}
use Rattle.sn_table.specs.Batches.{IsBatch, IsNoBatch}
use Rattle.sn_row_map.specs.RowMaps.{row_in}
use Rattle.sn_table.specs.declared.reading.Unread.{Unread}
use Rattle.sn_table.specs.declared.reading.Unread.TheVariants.{Memory, NoBatch}
use Rattle.sn_row_map.specs.declared.row_map.RowMap.{RowMap}

-- the payload spells a batch, and the rows are those that it leaves
pub record IsAdded (owner : Owner) (payload : List ℕ) (old new : RowMap) : Type 0 where
  pub changes : List Change
  pub is : payload ≡ spelled changes
  pub batch : IsBatch owner changes
  pub rows : (key : Key) → row_in new key ≡ row_after (row_in old key) key changes

-- the payloads spell batches, and the rows are those that they leave
pub record AreRead (owner : Owner) (payloads : List (List ℕ)) (left : RowMap) : Type 0 where
  pub batches : List (List Change)
  pub are : payloads ≡ map spelled batches
  pub each : All (IsBatch owner) batches
  pub rows : (key : Key) → row_in left key ≡ rows_of_batches batches key

-- batches that were read, up to what is left, and the place of the next gate, or the greatest number
pub record AreTaken (owner : Owner) (bytes rest : List ℕ) (left : RowMap) (gate : ℕ) : Type 0 where
  pub batches : List (List Change)
  pub split : bytes ≡ flat_map batch (map spelled batches) ++ rest
  pub bounded : All IsBounded (map spelled batches)
  pub each : All (IsBatch owner) batches
  pub rows : (key : Key) → row_in left key ≡ rows_of_batches batches key
  pub gate_is : gate ≡ min (length (front owner (map spelled batches))) (2 ^ 64 - 1)

-- the gate at this place is that of the first payload that spells no batch
pub record IsUnread (owner : Owner) (payloads : List (List ℕ)) (place : ℕ) : Type 0 where
  pub batches : List (List Change)
  pub payload : List ℕ
  pub later : List (List ℕ)
  pub split : payloads ≡ map spelled batches ++ payload ∷ later
  pub each : All (IsBatch owner) batches
  pub place_is : place ≡ length (front owner (map spelled batches))
  pub no_batch : IsNoBatch owner payload

-- why a payload behind this gate wasn't added
abbrev pub IsAddError : Owner → List ℕ → ℕ → Unread → Type 0
IsAddError owner payload gate Memory = Unit {0}
IsAddError owner payload gate (NoBatch place) = (place ≡ gate) × IsNoBatch owner payload

-- why payloads weren't read
abbrev pub IsReadError : Owner → List (List ℕ) → Unread → Type 0
IsReadError owner payloads Memory = Unit {0}
IsReadError owner payloads (NoBatch place) = IsUnread owner payloads place

-- The batches that stand behind a place of a store.
use Rattle.std.specs.Prelude.{◌≡◌, ◌+◌, ℕ, List, ◌++◌, length, drop, map, All}
use Rattle.std.specs.List.{flat_map}
use Rattle.sn_journal.specs.Image.{batch, IsBounded}
use Rattle.sn_journal.specs.Reading.{AreIn}
use Rattle.sn_journal.specs.declared.owner.Owner.{Owner}
use Rattle.sn_rows.specs.Spelling.{spelled}
use Rattle.sn_rows.specs.declared.change.Change.{Change}
use Rattle.sn_table.specs.Batches.{IsBatch, IsNoBatch}
use Rattle.sn_tail.specs.declared.tails.TailError.{TailError}
use Rattle.sn_tail.specs.declared.tails.TailError.TheVariants.{Damaged, Memory}

-- how many bytes batches take, with their gates and lengths
abbrev pub size_of : List (List Change) → ℕ
size_of batches = length (flat_map batch (map spelled batches))

-- From this place on these batches of the owner's stand in the bytes, up to a gate that isn't open, or before which no whole batch
-- stands; and this is the place of that gate.
pub record IsTail (owner : Owner) (bytes : List ℕ) (place : ℕ) (batches : List (List Change)) (gate : ℕ) : Type 0 where
  pub read : AreIn (drop place bytes) (map spelled batches)
  pub each : All (IsBatch owner) batches
  pub gate_is : gate ≡ place + size_of batches

-- From this place on whole batches stand in the bytes, up to a gate that isn't open, or before which no whole batch stands; and this
-- is the place of that gate.
pub record IsEnd (bytes : List ℕ) (place gate : ℕ) : Type 0 where
  pub payloads : List (List ℕ)
  pub read : AreIn (drop place bytes) payloads
  pub gate_is : gate ≡ place + length (flat_map batch payloads)

-- From this place on these batches of the owner's stand in the bytes, and behind them, at this gate, these bytes.
pub record AreBefore (owner : Owner) (bytes : List ℕ) (place : ℕ) (batches : List (List Change)) (gate : ℕ) (rest : List ℕ) : Type 0 where
  pub split : drop place bytes ≡ flat_map batch (map spelled batches) ++ rest
  pub bounded : All IsBounded (map spelled batches)
  pub each : All (IsBatch owner) batches
  pub gate_is : gate ≡ place + size_of batches

-- behind some batches of the owner's stands, at this gate, a whole one that spells no changes of the owner's rows
pub record HasNoBatchAt (owner : Owner) (bytes : List ℕ) (place gate : ℕ) : Type 0 where
  pub batches : List (List Change)
  pub payload : List ℕ
  pub later : List ℕ
  pub before : AreBefore owner bytes place batches gate (batch payload ++ later)
  pub short : IsBounded payload
  pub no_batch : IsNoBatch owner payload

-- why the batches behind a place weren't read
abbrev pub IsTailError : Owner → List ℕ → ℕ → TailError → Type 0
IsTailError owner bytes place (Damaged gate) = HasNoBatchAt owner bytes place gate
IsTailError owner bytes place Memory = Unit {0}

-- why the batch that a payload behind this gate spells wasn't added
abbrev pub IsNotAdded : Owner → List ℕ → ℕ → TailError → Type 0
IsNotAdded owner payload gate (Damaged place) = (place ≡ gate) × IsNoBatch owner payload
IsNotAdded owner payload gate Memory = Unit {0}

-- From this place on whole batches stand in the bytes, and behind them, at this gate, these bytes.
pub record ArePassed (bytes : List ℕ) (place gate : ℕ) (rest : List ℕ) : Type 0 where
  pub payloads : List (List ℕ)
  pub split : drop place bytes ≡ flat_map batch payloads ++ rest
  pub bounded : All IsBounded payloads
  pub gate_is : gate ≡ place + length (flat_map batch payloads)

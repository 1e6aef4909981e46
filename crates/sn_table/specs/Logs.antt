-- Open logs, and what loading finds.
use Rattle.std.specs.Prelude.{◌≡◌, ◌⊎◌, ℕ, List, map, All, Result, Ok, Err, Some}
use Rattle.sn_io.specs.Causes.{Rose}
use Rattle.sn_disk.specs.declared.disk.Disk.{Ghosts}
use Rattle.sn_journal.specs.Image.{IsImage}
use Rattle.sn_journal.specs.Loading.{IsForeign, IsDamaged}
use Rattle.sn_journal.specs.AtRest.{HasDurably, disk_of, owner_of}
use Rattle.sn_journal.specs.declared.owner.Owner.{Owner}
use Rattle.sn_row_map.specs.RowMaps.{row_in}
use Rattle.sn_row_map.specs.declared.row_map.RowMap.{RowMap}
use Rattle.sn_rows.specs.Kinds.{key_kind, value_kind}
use Rattle.sn_rows.specs.Spelling.{spelled}
use Rattle.sn_rows.specs.Table.{rows_of_batches}
use Rattle.sn_rows.specs.declared.change.Change.{Change}
use Rattle.sn_rows.specs.declared.key.Key.{Key}
use Rattle.sn_rows.specs.declared.value.Value.{Value}
use Rattle.sn_table.specs.Batches.{IsBatch, IsStore, owner_of_kind}
use Rattle.sn_table.specs.Reading.{IsUnread}
use Rattle.sn_table.specs.declared.log.Log.{Log}
use Rattle.sn_table.specs.declared.error.TableError.{TableError}
use Rattle.sn_table.specs.declared.error.TableError.TheVariants.{Foreign, Damaged, DiskFault, Memory}

-- each row's value is of its key's kind
abbrev pub HasKinds : RowMap → Type 0
HasKinds rows = (key : Key) (value : Value) → row_in rows key ≡ Some value → key_kind key ≡ value_kind value

-- each row is of this owner's
abbrev pub HasOwned : Owner → RowMap → Type 0
HasOwned owner rows = (key : Key) (value : Value) → row_in rows key ≡ Some value → owner_of_kind (key_kind key) ≡ owner

module _ {D : Type 0} {g : Ghosts D} where
  abbrev pub log_disk : Log D g → D
  log_disk log = disk_of log.journal

  abbrev pub log_owner : Log D g → Owner
  log_owner log = owner_of log.journal

  -- its disk has these batches, also after a crash
  pub record StandsFor (log : Log D g) (batches : List (List Change)) : Type 0 where
    pub durably : HasDurably log.journal (map spelled batches)
    pub each : All (IsBatch (log_owner log)) batches

  -- .. and the rows are those that they leave
  pub record HasRows (log : Log D g) (rows : RowMap) (batches : List (List Change)) : Type 0 where
    pub log_has : StandsFor log batches
    pub rows_are : (key : Key) → row_in rows key ≡ rows_of_batches batches key

  -- the batches are those that this file stands for
  pub record IsLoaded (owner : Owner) (file : List ℕ) (log : Log D g) (rows : RowMap) : Type 0 where
    pub batches : List (List Change)
    pub has : HasRows log rows batches
    pub store : IsStore owner file batches

-- the disk that loading hands on
abbrev pub loaded_disk : {S D : Type 0} → (S → D) → Result S (D × TableError) → D
loaded_disk disk_of (Ok store) = disk_of store
loaded_disk disk_of (Err refusal) = refusal.0

-- a batch of the file's isn't one of the owner's rows, and this is the place of the gate of the first such one
pub record IsDamagedBatch (owner : Owner) (file : List ℕ) (place : ℕ) : Type 0 where
  pub payloads : List (List ℕ)
  pub image : IsImage owner file payloads
  pub unread : IsUnread owner payloads place

-- why loading a disk of this content failed, by the count of its faults
abbrev pub IsLoadError : Owner → Type 0 → List ℕ → ℕ → ℕ → TableError → Type 0
IsLoadError owner told file before after (Foreign place) = told → IsForeign owner file place
IsLoadError owner told file before after (Damaged place) = told → IsDamaged owner file place ⊎ IsDamagedBatch owner file place
IsLoadError owner told file before after DiskFault = Rose before after
IsLoadError owner told file before after Memory = Unit {0}

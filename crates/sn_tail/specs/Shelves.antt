-- Stores in the slots of a shelf, as the records of their disks tell.
use Rattle.std.specs.Prelude.{◌≡◌, ℕ, List, [], ⊤}
use Rattle.sn_disk.specs.Growth.{Longer}
use Rattle.sn_disk.specs.MemDisk.{disk_told}
use Rattle.sn_disk.specs.MemShelf.{shelf_slot}
use Rattle.sn_disk.specs.Shelf.{Slot, holds, out, unknown}
use Rattle.sn_disk.specs.declared.mem_shelf.MemShelf.{MemShelf}
use Rattle.sn_disk.specs.declared.memory.MemDisk.{MemDisk}
use Rattle.sn_journal.specs.declared.owner.Owner.{Owner}
use Rattle.sn_rows.specs.Table.{Rows, rows_of_batches}
use Rattle.sn_rows.specs.declared.change.Change.{Change}
use Rattle.sn_tail.specs.Marks.{StoodAt}

-- the store of this slot stood for these batches at a mark; where no disk was ever put, for none, at mark 0
abbrev pub SlotStood : Slot MemDisk → Owner → ℕ → List (List Change) → Type 0
SlotStood unknown owner mark batches = (mark ≡ 0) × (batches ≡ [])
SlotStood out owner mark batches = ⊥
SlotStood (holds disk) owner mark batches = StoodAt disk mark owner batches

-- these are the rows of the batches for which the store of this slot stood at a mark
pub record SlotReads (slot : Slot MemDisk) (owner : Owner) (mark : ℕ) (rows : Rows) : Type 0 where
  pub batches : List (List Change)
  pub stood : SlotStood slot owner mark batches
  pub rows_are : rows ≡ rows_of_batches batches

-- these are the rows of the batches for which the store under this name stood at a mark
abbrev pub ReadsAs : MemShelf → List ℕ → Owner → ℕ → Rows → Type 0
ReadsAs shelf name owner mark rows = SlotReads (shelf_slot shelf name) owner mark rows

-- the record of the slot's disk grew, or began with a disk without bytes that was put there
abbrev pub SlotGrows : Slot MemDisk → Slot MemDisk → Type 0
SlotGrows unknown unknown = ⊤
SlotGrows unknown (holds disk) = (disk_told disk).start ≡ []
SlotGrows (holds old) (holds new) = Longer (disk_told old) (disk_told new)
SlotGrows old new = ⊥

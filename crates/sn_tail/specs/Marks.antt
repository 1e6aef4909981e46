-- What a store on a disk in memory stood for at a moment, as the disk's record of calls tells.
use Rattle.std.specs.Prelude.{◌≤◌, ℕ, List, ◌++◌, length, reverse, take}
use Rattle.sn_disk.specs.Disk.{Only}
use Rattle.sn_disk.specs.Steps.{LeftAt, Leaves, replayed}
use Rattle.sn_disk.specs.MemDisk.{disk_told}
use Rattle.sn_disk.specs.declared.memory.MemDisk.{MemDisk}
use Rattle.sn_journal.specs.declared.owner.Owner.{Owner}
use Rattle.sn_rows.specs.declared.change.Change.{Change}
use Rattle.sn_table.specs.Batches.{IsAllOrNothing, IsStore}

-- the present moment, as a mark: how many changing calls the record has
abbrev pub mark_of : MemDisk → ℕ
mark_of disk = length (disk_told disk).steps

-- the bytes that reads gave when the record had so many calls
abbrev pub seen_at : MemDisk → ℕ → List ℕ
seen_at disk mark = replayed (disk_told disk).start (reverse (take mark (disk_told disk).steps))

-- When the record had so many calls, the disk read so, and each file that a crash might have left then was so.
pub record WasSo (disk : MemDisk) (mark : ℕ) (so : List ℕ → Type 0) : Type 0 where
  pub within : mark ≤ mark_of disk
  pub read : so (seen_at disk mark)
  pub each : (file : List ℕ) → LeftAt (disk_told disk) mark file → so file

-- at that moment the store stood for these batches, also after a crash
abbrev pub StoodAt : MemDisk → ℕ → Owner → List (List Change) → Type 0
StoodAt disk mark owner batches = WasSo disk mark (λ file. IsStore owner file batches)

-- at that moment it stood for these batches, and perhaps for the whole of one more
abbrev pub StoodAtEither : MemDisk → ℕ → Owner → List (List Change) → List Change → Type 0
StoodAtEither disk mark owner batches changes = WasSo disk mark (IsAllOrNothing owner batches changes)

-- the file stands for these batches, and some behind them
abbrev pub HasBehind : Owner → List (List Change) → List ℕ → Type 0
HasBehind owner before file = (later : List (List Change)) × IsStore owner file (before ++ later)

-- A crash leaves just what reads give: these batches, and some behind them.
pub record HasOneFile (disk : MemDisk) (owner : Owner) (before : List (List Change)) : Type 0 where
  pub one : Only (disk_told disk).bytes (Leaves (disk_told disk))
  pub later : List (List Change)
  pub store : IsStore owner (disk_told disk).bytes (before ++ later)

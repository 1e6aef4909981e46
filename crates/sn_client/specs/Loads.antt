-- What loading a device leaves, and why a disk isn't loaded.
use Rattle.std.specs.Prelude.{◌⊎◌, ℕ, List, Some, Result, Ok, Err, ⊤}
use Rattle.sn_io.specs.Causes.{Rose}
use Rattle.sn_journal.specs.Loading.{IsForeign, IsDamaged}
use Rattle.sn_journal.specs.declared.owner.Owner.TheVariants.{Device as DeviceOwner}
use Rattle.sn_rows.specs.Table.{Rows, rows_of_batches}
use Rattle.sn_rows.specs.declared.change.Change.{Change}
use Rattle.sn_table.specs.Batches.{IsStore}
use Rattle.sn_table.specs.Kept.{Kept, kept_of}
use Rattle.sn_table.specs.Logs.{IsDamagedBatch}
use Rattle.sn_table.specs.declared.error.TableError.{TableError}
use Rattle.sn_table.specs.declared.error.TableError.TheVariants as table
use Rattle.sn_device.specs.States.{IsFirstUnsound}
use Rattle.sn_client.specs.declared.error.DeviceError.{DeviceError}
use Rattle.sn_client.specs.declared.error.DeviceError.TheVariants.{Foreign, Damaged, Rows as UnsoundRows, DiskFault, Memory}

-- open with the batches that this file stands for
abbrev pub IsLoaded : {S : Type 0} → (S → Kept → Type 0) → List ℕ → S → Type 0
IsLoaded is_open file device = (batches : List (List Change)) × IsStore DeviceOwner file batches × is_open device (kept_of batches)

-- the disk that loading hands on
abbrev pub given_disk : {S D : Type 0} → (S → D) → Result S (D × DeviceError) → D
given_disk disk_of (Ok device) = disk_of device
given_disk disk_of (Err refusal) = refusal.0

abbrev pub of_table : TableError → DeviceError
of_table (table.Foreign place) = Foreign place
of_table (table.Damaged place) = Damaged place
of_table table.DiskFault = DiskFault
of_table table.Memory = Memory

-- why rows weren't opened
abbrev pub IsOpenError : Rows → DeviceError → Type 0
IsOpenError rows (Foreign place) = ⊥
IsOpenError rows (Damaged place) = ⊥
IsOpenError rows (UnsoundRows kind) = IsFirstUnsound rows (Some kind)
IsOpenError rows DiskFault = ⊥
IsOpenError rows Memory = ⊤

-- why a disk of this content wasn't loaded, by the count of its faults
abbrev pub IsDeviceError : Type 0 → List ℕ → ℕ → ℕ → DeviceError → Type 0
IsDeviceError told file faults now (Foreign place) = told → IsForeign DeviceOwner file place
IsDeviceError told file faults now (Damaged place) = told → IsDamaged DeviceOwner file place ⊎ IsDamagedBatch DeviceOwner file place
IsDeviceError told file faults now (UnsoundRows kind) =
    told → (batches : List (List Change)) × IsStore DeviceOwner file batches × IsFirstUnsound (rows_of_batches batches) (Some kind)
IsDeviceError told file faults now DiskFault = Rose faults now
IsDeviceError told file faults now Memory = ⊤

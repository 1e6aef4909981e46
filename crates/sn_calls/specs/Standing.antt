-- What a crash leaves of a disk that isn't loaded.
use Rattle.std.specs.Prelude.{◌⊎◌, ℕ, List}
use Rattle.sn_client.specs.declared.error.DeviceError.{DeviceError}
use Rattle.sn_client.specs.declared.error.DeviceError.TheVariants.{Foreign, Damaged, Rows, DiskFault, Memory}
use Rattle.sn_journal.specs.Image.{SameBatches}
use Rattle.sn_journal.specs.declared.owner.Owner.TheVariants.{Device as DeviceOwner}
use Rattle.sn_table.specs.Logs.{IsDamagedBatch}

-- what it might have left before, or bytes of the same batches as the file's
abbrev pub Stays : (List ℕ → Type 0) → List ℕ → List ℕ → Type 0
Stays before file c = before c ⊎ SameBatches DeviceOwner file c

-- What a crash leaves at any moment of a load that is refused so. Of a file that is foreign, or damaged at a batch that isn't
-- whole, it leaves just what it might have left before.
abbrev pub StaysRefused : DeviceError → (List ℕ → Type 0) → List ℕ → List ℕ → Type 0
StaysRefused (Foreign place) before file c = before c
StaysRefused (Damaged place) before file c = before c ⊎ (IsDamagedBatch DeviceOwner file place × SameBatches DeviceOwner file c)
StaysRefused (Rows kind) before file c = Stays before file c
StaysRefused DiskFault before file c = Stays before file c
StaysRefused Memory before file c = Stays before file c

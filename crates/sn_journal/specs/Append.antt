-- When an append is refused.
use Rattle.std.specs.Prelude.{◌≡◌, ◌<◌, ◌≤◌, ℕ}
use Rattle.sn_io.specs.Causes.{Rose}
use Rattle.sn_disk.specs.declared.disk.Disk.{Ghosts}
use Rattle.sn_journal.specs.Image.{most_payload}
use Rattle.sn_journal.specs.declared.journal.Journal.{Journal}
use Rattle.sn_journal.specs.declared.journal.AppendError.{AppendError}
use Rattle.sn_journal.specs.declared.journal.AppendError.TheVariants.{TooLarge, Memory, DiskFault}

-- too large a payload or want of memory hands the journal back as it was, a fault of the disk the disk
abbrev pub IsRefusal : {D : Type 0} {g : Ghosts D} → Journal D g → ℕ → AppendError D g → Type 0
IsRefusal old size (TooLarge journal told) = (most_payload < size) × (told ≡ size) × (journal ≡ old)
IsRefusal old size (Memory journal) = (size ≤ most_payload) × (journal ≡ old)
IsRefusal {g = g} old size (DiskFault disk) = (size ≤ most_payload) × Rose (g.fault_count old.disk) (g.fault_count disk)

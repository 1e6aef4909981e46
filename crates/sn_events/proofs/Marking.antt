-- The marks of devices' disks.
use Rattle.std.proofs.Common.{◌≡◌, ℕ, Some, sym, subst}
use Rattle.std.specs.declared.option.Option.{Option}
use Rattle.sn_client.specs.Calls.{IsOpen, device_disk}
use Rattle.sn_events.specs.Devices.{HasRows}
use Rattle.sn_events.specs.Slots.{slot_mark, slot_of_device}
use Rattle.sn_events.specs.declared.steady.Holding.{Holding}
use Rattle.sn_events.specs.declared.steady.Holding.TheVariants.{Device}
use Rattle.sn_journal.specs.declared.owner.Owner.TheVariants.{Device as DeviceOwner}
use Rattle.sn_rows.specs.Table.{Rows}
use Rattle.sn_table.specs.Kept.{Kept, kept_of}
use Rattle.sn_tail.specs.Marks.{StoodAt, mark_of}
use Rattle.sn_tail.specs.Shelves.{SlotReads}

-- the mark is the present one, at which the device's disk stands for whatever it has
abbrev pub IsMarkOf : Holding → ℕ → Type 0
IsMarkOf (Device device place) mark = (kept : Kept) → IsOpen device kept → (mark ≡ mark_of (device_disk device)) × StoodAt (device_disk device) mark DeviceOwner kept.batches

-- the mark of a name's disk, where it has one
abbrev pub IsMarked : Option Holding → ℕ → Rows → Type 0
IsMarked found mark rows = (mark ≡ slot_mark (slot_of_device found)) × SlotReads (slot_of_device found) DeviceOwner mark rows

marked : (held : Holding) (mark : ℕ) (rows : Rows) → IsMarkOf held mark → HasRows (Some held) rows → IsMarked (Some held) mark rows
marked (Device device place) mark rows marks has =
    let (is, stood) = marks (kept_of has.batches) has.open_is in
    (is, record { batches = has.batches; stood = stood; rows_are = sym has.rows_are })

pub marked_there : (found : Option Holding) (held : Holding) (mark : ℕ) (rows : Rows) → Some held ≡ found → IsMarkOf held mark → HasRows found rows → IsMarked found mark rows
marked_there found held mark rows is marks has =
    subst (λ (o : Option Holding). IsMarked o mark rows) is (marked held mark rows marks (subst (λ (o : Option Holding). HasRows o rows) (sym is) has))

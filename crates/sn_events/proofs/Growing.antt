-- Disks that go on.
use Rattle.std.proofs.Common.{◌≡◌, [], Bool, true, false, None, Some, refl, sym, ap, ◌∙◌, subst}
use Rattle.std.specs.Str.{bytes_eq}
use Rattle.std.specs.declared.option.Option.{Option}
use Rattle.sn_disk.specs.Courses.{DiskState}
use Rattle.sn_disk.specs.Growth.{Longer, grows_on, grows_same, runs_longer}
use Rattle.sn_disk.specs.MemDisk.{Grows, disk_state, disk_told}
use Rattle.sn_disk.specs.declared.memory.MemDisk.{MemDisk}
use Rattle.sn_events.specs.Devices.{device_of}
use Rattle.sn_events.specs.Growing.{ComesFrom, EndsGoOn, IsFreshDisk, held_disk}
use Rattle.sn_events.specs.Slots.{EndsGrow, device_slot, slot_of_device, slot_of_held}
use Rattle.sn_events.specs.declared.ends.Ends.{Ends}
use Rattle.sn_events.specs.declared.steady.Holding.{Holding}
use Rattle.sn_laws.proofs.Facts.{clash, same_text, text_same}
use Rattle.sn_laws.specs.Lookups.{Bytes}
use Rattle.sn_link.specs.Deliveries.{Standing, held_disk as server_held_disk}
use Rattle.sn_link.specs.Holdings.{GoesOn, HoldsIn}
use Rattle.sn_link.specs.Links.{link_held}
use Rattle.sn_link.specs.declared.delivery.Held.{Held}
use Rattle.sn_disk.specs.Shelf.{holds}
use Rattle.sn_tail.specs.Shelves.{SlotGrows}

pub fresh_on : (old new : MemDisk) → Grows old new → IsFreshDisk old → IsFreshDisk new
fresh_on old new grows fresh = (runs_longer (disk_state old) grows.calls (disk_state new) grows.runs).start ∙ fresh

pub fresh_made : (disk : MemDisk) (course : DiskState) → disk_state disk ≡ course → course.told.start ≡ [] → IsFreshDisk disk
fresh_made disk course is start = ap (λ (x : DiskState). x.told.start) is ∙ start

-- one that is taken out is the one that was there
pub taken_from : (found : Option Holding) (held : Holding) → found ≡ Some held → ComesFrom found held
taken_from found held is = subst (λ (o : Option Holding). ComesFrom o held) (sym is) (grows_same (held_disk held))

pub begun_from : (found : Option Holding) (held : Holding) → found ≡ None → IsFreshDisk (held_disk held) → ComesFrom found held
begun_from found held none fresh = subst (λ (o : Option Holding). ComesFrom o held) (sym none) fresh

-- and goes on
pub from_on : (found : Option Holding) (held after : Holding) → ComesFrom found held → Grows (held_disk held) (held_disk after) → ComesFrom found after
from_on None held after from grows = fresh_on (held_disk held) (held_disk after) grows from
from_on (Some before) held after from grows = grows_on (held_disk before) (held_disk held) (held_disk after) from grows

-- ---- slots

longer_of : (old new : MemDisk) → Grows old new → Longer (disk_told old) (disk_told new)
longer_of old new grows = runs_longer (disk_state old) grows.calls (disk_state new) grows.runs

pub server_grows : (old new : Option Held) (was : Standing) → HoldsIn old was → GoesOn old new → SlotGrows (slot_of_held old) (slot_of_held new)
server_grows None new was there goes = absurd there
server_grows (Some held) new was there goes =
    let (after, is, grows) = goes held refl in
    subst (λ (o : Option Held). SlotGrows (holds (server_held_disk held)) (slot_of_held o)) (sym is) (longer_of (server_held_disk held) (server_held_disk after) grows)

device_grows : (found : Option Holding) (after : Holding) → ComesFrom found after → SlotGrows (slot_of_device found) (holds (held_disk after))
device_grows None after from = from
device_grows (Some before) after from = longer_of (held_disk before) (held_disk after) from

pub device_same : (found : Option Holding) → SlotGrows (slot_of_device found) (slot_of_device found)
device_same None = tt
device_same (Some held) = longer_of (held_disk held) (held_disk held) (grows_same (held_disk held))

pub ends_grow : (name : Bytes) (old new : Ends) (was : Standing) → HoldsIn (link_held old.link) was → EndsGoOn name old new → EndsGrow old new
ends_grow name old new was there goes = record {
  server = server_grows (link_held old.link) (link_held new.link) was there goes.server;
  devices = λ other. at other (bytes_eq other name) refl;
}
  where
    own : SlotGrows (device_slot old name) (device_slot new name)
    own = subst (λ (o : Option Holding). SlotGrows (device_slot old name) (slot_of_device o)) (sym goes.own)
        (device_grows (device_of old.devices name) goes.device goes.from)

    at : (other : Bytes) (b : Bool) → bytes_eq other name ≡ b → SlotGrows (device_slot old other) (device_slot new other)
    at other true same = subst (λ (n : Bytes). SlotGrows (device_slot old n) (device_slot new n)) (sym (same_text other name same)) own
    at other false off =
        subst (λ (o : Option Holding). SlotGrows (device_slot old other) (slot_of_device o))
        (sym (goes.others other (λ is. clash (bytes_eq other name) (text_same other name is) off))) (device_same (device_of old.devices other))

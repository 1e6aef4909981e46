-- A server that is held, but while it serves a message.
use Rattle.std.specs.Prelude.{◌≡◌, Option, Some, None, ⊤}
use Rattle.sn_disk.specs.Growth.{grows_on, grows_same}
use Rattle.sn_disk.specs.MemDisk.{Grows}
use Rattle.sn_link.specs.Deliveries.{Holds, IsSoundHeld, Standing, held_disk}
use Rattle.sn_link.specs.declared.delivery.Held.{Held}

-- it is there, and has that
abbrev pub HoldsIn : Option Held → Standing → Type 0
HoldsIn None standing = ⊥
HoldsIn (Some held) standing = Holds held standing

abbrev pub IsSoundIn : Option Held → Type 0
IsSoundIn None = ⊤
IsSoundIn (Some held) = IsSoundHeld held

-- its disk is there, as it was or gone on
abbrev pub GoesOn : Option Held → Option Held → Type 0
GoesOn old new = (held : Held) → old ≡ Some held → (after : Held) × (new ≡ Some after) × Grows (held_disk held) (held_disk after)

pub stays_on : (held : Option Held) → GoesOn held held
stays_on old held is = (held, is, grows_same (held_disk held))

pub goes_further : (a b c : Option Held) → GoesOn a b → GoesOn b c → GoesOn a c
goes_further a b c x y held is =
    let (mid, mid_is, first) = x held is in
    let (last, last_is, second) = y mid mid_is in
    (last, last_is, grows_on (held_disk held) (held_disk mid) (held_disk last) first second)

-- Disks that are put away one after another.
use Rattle.std.proofs.Common.{◌≡◌, ◌≢◌, ◌⊎◌, [], Bool, true, false, cond, None, Some, refl, sym, ap, ◌∙◌, subst, inl, inr}
use Rattle.std.specs.Prelude.{codes}
use Rattle.std.specs.BTreeMap.{BTreeMap, get_by_text}
use Rattle.std.specs.Map.{update}
use Rattle.std.specs.Str.{bytes_eq}
use Rattle.std.specs.declared.option.Option.{Option}
use Rattle.std.specs.declared.string.String.{String}
use Rattle.std.proofs.lemmas.List.{append_cancel_left}
use Rattle.sn_disk.specs.MemShelf.{shelf_slot}
use Rattle.sn_disk.specs.Shelf.{Slot, holds, unknown}
use Rattle.sn_disk.specs.declared.mem_shelf.MemShelf.{MemShelf}
use Rattle.sn_disk.specs.declared.memory.MemDisk.{MemDisk}
use Rattle.sn_events.specs.Growing.{held_disk}
use Rattle.sn_events.specs.Slots.{device_key, slot_of_device}
use Rattle.sn_events.specs.declared.steady.Holding.{Holding}
use Rattle.sn_events.specs.declared.steady.Steady.{Steady}
use Rattle.sn_laws.proofs.Facts.{clash, same_text, text_same}
use Rattle.sn_laws.specs.Lookups.{Bytes}

-- ---- names on the shelf

pub one_key : (a b : Bytes) → device_key a ≡ device_key b → a ≡ b
one_key a b is = append_cancel_left (codes "device-") a b is

pub not_server : (name : Bytes) → codes "server" ≢ device_key name
not_server name = λ is. let impossible : ⊥ = cc in impossible

-- ---- one after another

-- of a device that there was: it is still to be put away, or its disk stands on the shelf
abbrev pub IsMoved : Option Holding → Option Holding → Slot MemDisk → Type 0
IsMoved start left slot = ((left ≡ start) × (slot ≡ unknown)) ⊎ ((left ≡ None) × (slot ≡ slot_of_device start))

pub record AreMoved {Y : Type 0} (start left : BTreeMap (String Y) Steady) (before shelf : MemShelf) : Type 0 where
  pub each : (name : Bytes) → IsMoved (get_by_text start name) (get_by_text left name) (shelf_slot shelf (device_key name))
  pub others : (other : Bytes) → ((name : Bytes) → other ≢ device_key name) → shelf_slot shelf other ≡ shelf_slot before other

pub none_moved : {Y : Type 0} (start : BTreeMap (String Y) Steady) (before : MemShelf) → ((name : Bytes) → shelf_slot before (device_key name) ≡ unknown) → AreMoved start start before before
none_moved start before fresh = record { each = λ name. inl (refl, fresh name); others = λ other apart. refl }

still_unknown : (start left : Option Holding) (slot : Slot MemDisk) (held : Holding) → IsMoved start left slot → left ≡ Some held → slot ≡ unknown
still_unknown start left slot held (inl (same, none)) found = none
still_unknown start left slot held (inr (gone, put)) found = absurd (let impossible : ⊥ = cc in impossible)

moved_here : (start left next : Option Holding) (slot later : Slot MemDisk) (held : Holding) → IsMoved start left slot → left ≡ Some held → next ≡ None → later ≡ holds (held_disk held)
    → IsMoved start next later
moved_here start left next slot later held (inl (same, none)) found gone put = inr (gone, put ∙ sym (ap slot_of_device (sym same ∙ found)))
moved_here start left next slot later held (inr (away, there)) found gone put = absurd (let impossible : ⊥ = cc in impossible)

-- what stands under the name of one that is still there
pub room_for : {Y : Type 0} (start left : BTreeMap (String Y) Steady) (before shelf : MemShelf) (k : Bytes) (held : Steady) → AreMoved start left before shelf → get_by_text left k ≡ Some held
    → shelf_slot shelf (device_key k) ≡ unknown
room_for start left before shelf k held are found = still_unknown (get_by_text start k) (get_by_text left k) (shelf_slot shelf (device_key k)) held (are.each k) found

more_moved : {Y : Type 0} (start old new : BTreeMap (String Y) Steady) (before shelf later : MemShelf) (k : Bytes) (held : Steady) → AreMoved start old before shelf
    → get_by_text old k ≡ Some held → ((cs : Bytes) → get_by_text new cs ≡ update bytes_eq (get_by_text old) k None cs) → shelf_slot later (device_key k) ≡ holds (held_disk held)
    → ((other : Bytes) → other ≢ device_key k → shelf_slot later other ≡ shelf_slot shelf other) → AreMoved start new before later
more_moved start old new before shelf later k held are found updated put others = record {
  each = λ name. at name (bytes_eq k name) refl;
  others = λ other apart. others other (apart k) ∙ are.others other apart;
}
  where
    gone : get_by_text new k ≡ None
    gone = updated k ∙ ap (λ (b : Bool). cond b None (get_by_text old k)) (text_same k k refl)

    here : IsMoved (get_by_text start k) (get_by_text new k) (shelf_slot later (device_key k))
    here = moved_here (get_by_text start k) (get_by_text old k) (get_by_text new k) (shelf_slot shelf (device_key k)) (shelf_slot later (device_key k)) held (are.each k) found gone put

    at : (name : Bytes) (b : Bool) → bytes_eq k name ≡ b → IsMoved (get_by_text start name) (get_by_text new name) (shelf_slot later (device_key name))
    at name true same = subst (λ (n : Bytes). IsMoved (get_by_text start n) (get_by_text new n) (shelf_slot later (device_key n))) (same_text k name same) here
    at name false off =
        let left_same : get_by_text new name ≡ get_by_text old name = updated name ∙ ap (λ (b : Bool). cond b None (get_by_text old name)) off in
        let slot_same : shelf_slot later (device_key name) ≡ shelf_slot shelf (device_key name) =
        others (device_key name) (λ is. clash (bytes_eq k name) (text_same k name (sym (one_key name k is))) off) in
        subst (λ (s : Slot MemDisk). IsMoved (get_by_text start name) (get_by_text new name) s) (sym slot_same)
        (subst (λ (o : Option Holding). IsMoved (get_by_text start name) o (shelf_slot shelf (device_key name))) (sym left_same) (are.each name))

-- one is taken out of the map, and its disk is put under its name
pub moved_more : {Y : Type 0} (start old new : BTreeMap (String Y) Steady) (before shelf later : MemShelf) (k name : Bytes) (held : Steady) (disk : MemDisk) → AreMoved start old before shelf
    → get_by_text old k ≡ Some held → ((cs : Bytes) → get_by_text new cs ≡ update bytes_eq (get_by_text old) k None cs) → name ≡ k → disk ≡ held_disk held
    → shelf_slot later (device_key name) ≡ holds disk → ((other : Bytes) → other ≢ device_key name → shelf_slot later other ≡ shelf_slot shelf other) → AreMoved start new before later
moved_more start old new before shelf later k name held disk are found updated same disk_is put others =
    more_moved start old new before shelf later k held are found updated
    (subst (λ (n : Bytes). shelf_slot later (device_key n) ≡ holds (held_disk held)) same (put ∙ ap (λ (d : MemDisk). holds d) disk_is))
    (subst (λ (n : Bytes). (other : Bytes) → other ≢ device_key n → shelf_slot later other ≡ shelf_slot shelf other) same others)

-- ---- all of them

none_left : {Y : Type 0} (left : BTreeMap (String Y) Steady) (name : Bytes) → left.entries ≡ [] → get_by_text left name ≡ None
none_left left name none = rw none refl

moved_so : (start left : Option Holding) (slot : Slot MemDisk) → IsMoved start left slot → left ≡ None → slot ≡ slot_of_device start
moved_so start left slot (inl (same, none)) gone = none ∙ sym (ap slot_of_device (sym same ∙ gone))
moved_so start left slot (inr (away, there)) gone = there

pub all_moved : {Y : Type 0} (start left : BTreeMap (String Y) Steady) (before shelf : MemShelf) → AreMoved start left before shelf → left.entries ≡ []
    → (name : Bytes) → shelf_slot shelf (device_key name) ≡ slot_of_device (get_by_text start name)
all_moved start left before shelf are none name =
    moved_so (get_by_text start name) (get_by_text left name) (shelf_slot shelf (device_key name)) (are.each name) (none_left left name none)

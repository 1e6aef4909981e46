-- What a shelf in memory holds, and how its calls end.
use Rattle.std.specs.Prelude.{◌≡◌, ◌⊎◌, ◌↔◌, ℕ, List, false, IsTrue, Result, Ok, Err, Some, None}
use Rattle.std.specs.declared.option.Option.{Option}
use Rattle.std.specs.BTreeMap.{get_by_text}
use Rattle.std.specs.Cmp.Lexicographic.{slice_cmp}
use Rattle.std.specs.List.{Contains}
use Rattle.std.specs.List.Sorted.{IsStrictlySortedBy}
use Rattle.std.specs.Ordering.{nat_cmp}
use Rattle.sn_io.specs.FaultPlan.{Plan, is_listed, began, failed}
use Rattle.sn_disk.specs.Shelf.{Slot, unknown, out, holds, HoldsNone, IsKnown}
use Rattle.sn_disk.specs.declared.memory.MemDisk.{MemDisk}
use Rattle.sn_disk.specs.declared.mem_shelf.MemShelf.{MemShelf}

-- what stands under a name, by what is found of it
abbrev pub slot_of : Option (Option MemDisk) → Slot MemDisk
slot_of None = unknown
slot_of (Some None) = out
slot_of (Some (Some disk)) = holds disk

-- what stands under a name
unfoldable pub shelf_slot : MemShelf → List ℕ → Slot MemDisk
shelf_slot shelf name = slot_of (get_by_text shelf.disks name)

-- the plan of its failing calls, with their counts
abbrev pub shelf_plan : MemShelf → Plan
shelf_plan shelf = shelf.plan

-- the names under which a disk was put, in the order of their bytes
pub record AreNames (shelf : MemShelf) (names : List (List ℕ)) : Type 0 where
  pub sorted : IsStrictlySortedBy (slice_cmp nat_cmp) names
  pub whole : (name : List ℕ) → Contains names name ↔ IsKnown (shelf_slot shelf name)

-- A call that isn't listed, of a name under which this disk stands.
pub record Takes (name : List ℕ) (disk : MemDisk) (old new : MemShelf) : Type 0 where
  pub not_listed : is_listed (shelf_plan old) ≡ false
  pub held : shelf_slot old name ≡ holds disk
  pub plan : shelf_plan new ≡ began (shelf_plan old)

-- A call that is listed.
pub record IsListed (old new : MemShelf) : Type 0 where
  pub listed : IsTrue (is_listed (shelf_plan old))
  pub plan : shelf_plan new ≡ began (shelf_plan old)

-- A call that isn't listed, of a name under which no disk stands.
pub record FindsNone (name : List ℕ) (old new : MemShelf) : Type 0 where
  pub not_listed : is_listed (shelf_plan old) ≡ false
  pub none : HoldsNone (shelf_slot old name)
  pub plan : shelf_plan new ≡ failed (began (shelf_plan old))

-- how a call of `take` ends
abbrev pub TakeEnds : {E : Type 0} → List ℕ → MemShelf → MemShelf → Result MemDisk E → Type 0
TakeEnds name old new (Ok disk) = Takes name disk old new
TakeEnds name old new (Err e) = IsListed old new ⊎ FindsNone name old new

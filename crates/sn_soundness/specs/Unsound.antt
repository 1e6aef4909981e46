-- What is asked of one row of an item, beside the rows that were looked at before.
use Rattle.std.specs.Prelude.{◌≡◌, ◌≢◌, ◌⊎◌, ◌↔◌, ◌<◌, ℕ, true, Some, IsSome}
use Rattle.std.specs.BTreeMap.{BTreeMap, get}
use Rattle.std.specs.Cmp.Lexicographic.{slice_cmp}
use Rattle.std.specs.Ordering.{nat_cmp}
use Rattle.sn_items.specs.Opens.{NamesItem}
use Rattle.sn_rows.specs.declared.body.RowBody.TheVariants as row
use Rattle.sn_rows.specs.declared.device_rows.LocalItem.{LocalItem}
use Rattle.sn_rows.specs.declared.key.Key.{Key}
use Rattle.sn_rows.specs.declared.value.Value.{Value}
use Rattle.sn_string.specs.Grammar.{Reading}
use Rattle.sn_device.specs.States.{Bytes, Columns, IsSoundItem, NamesVersion, columns}
use Rattle.sn_local.specs.Found.{IsItemRow}

-- ---- one item

-- the text is a 003 string of the uuid
abbrev pub Names : Bytes → Bytes → Type 0
Names uuid text = (reading : Reading) × NamesItem text reading uuid

-- the versions of an item and its drafts are there together as they must be
pub record HasSoundParts (c : Columns) : Type 0 where
  pub based : IsSome c.base ↔ IsSome c.body
  pub undeleted : c.body ≢ Some row.Deleted
  pub some : IsSome c.base ⊎ IsSome c.latest
  pub sent : IsSome c.posted → IsSome c.latest
  pub again : c.stale ≡ true → IsSome c.base

-- all their strings are 003 strings that name the item
pub record HasOwnStrings (c : Columns) : Type 0 where
  pub body : NamesVersion c.uuid c.body
  pub latest : NamesVersion c.uuid c.latest
  pub posted : NamesVersion c.uuid c.posted

-- ---- the items that were looked at

-- local numbers by uuid
abbrev pub Seen : Type 0
Seen = BTreeMap Bytes ℕ

-- the item of this uuid has this number
abbrev pub HasSeen : Seen → Bytes → ℕ → Type 0
HasSeen seen uuid n = get (slice_cmp nat_cmp) seen uuid ≡ Some n

-- no item of another number has the uuid
abbrev pub IsApart : Seen → Bytes → ℕ → Type 0
IsApart seen uuid n = (other : ℕ) → HasSeen seen uuid other → other ≡ n

-- the item of this uuid and number is there, and else what was
pub record SeesMore (old new : Seen) (uuid : Bytes) (n : ℕ) : Type 0 where
  pub here : HasSeen new uuid n
  pub kept : (other : Bytes) (m : ℕ) → HasSeen old other m → HasSeen new other m
  pub no_more : (other : Bytes) (m : ℕ) → HasSeen new other m → HasSeen old other m ⊎ ((uuid ≡ other) × (n ≡ m))

-- an item is sound, has a number below this one, and a uuid that no other has
pub record IsSoundBeside (seen : Seen) (next n : ℕ) (local : LocalItem) : Type 0 where
  pub numbered : n < next
  pub item : IsSoundItem (columns local)
  pub apart : IsApart seen local.uuid n

-- ---- the same of a row that may be one of an item

abbrev pub IsSoundRow : Seen → ℕ → Key → Value → Type 0
IsSoundRow seen next k v = (n : ℕ) (local : LocalItem) → IsItemRow k v n local → IsSoundBeside seen next n local

pub record SeesRow (old new : Seen) (k : Key) (v : Value) : Type 0 where
  pub here : (n : ℕ) (local : LocalItem) → IsItemRow k v n local → HasSeen new local.uuid n
  pub kept : (uuid : Bytes) (m : ℕ) → HasSeen old uuid m → HasSeen new uuid m
  pub no_more : (uuid : Bytes) (m : ℕ) → HasSeen new uuid m → HasSeen old uuid m ⊎ ((local : LocalItem) × IsItemRow k v m local × (local.uuid ≡ uuid))

-- What a device tells of its items: their contents, and a line of each.
use Rattle.std.specs.Prelude.{◌≡◌, ◌⊎◌, ◌↔◌, ℕ, List, length, map, Option, Some, None}
use Rattle.std.specs.List.{AllZip, Contains}
use Rattle.std.specs.List.Sorted.{IsStrictlyIncreasing}
use Rattle.sn_rows.specs.Table.{Rows}
use Rattle.sn_rows.specs.declared.body.RowBody.{RowBody}
use Rattle.sn_rows.specs.declared.body.RowBody.TheVariants as row
use Rattle.sn_rows.specs.declared.body.RowStrings.{RowStrings}
use Rattle.sn_rows.specs.declared.device_rows.LocalItem.{LocalItem}
use Rattle.sn_sets.specs.Sets.{OpensHeld, OpensNowhere, sealed_of}
use Rattle.sn_sets.specs.declared.sets.Sets.{Sets}
use Rattle.sn_string.specs.Grammar.{Is003, Reading}
use Rattle.sn_device.specs.Sending.{Numbered, first_some}
use Rattle.sn_device.specs.States.{Bytes, HasLocal}
use Rattle.sn_device.specs.declared.listed.Listed.{Listed}
use Rattle.sn_device.specs.declared.listed.Mark.{Mark}
use Rattle.sn_device.specs.declared.listed.Mark.TheVariants as mark

-- the version that the user sees: the draft, else what the item stands on
abbrev pub shown_of : LocalItem → Option RowBody
shown_of local = first_some local.latest local.body

-- it is a deletion
abbrev pub IsDeleted : LocalItem → Type 0
IsDeleted local = local.latest ≡ Some row.Deleted

-- it opens to this content
abbrev pub Shows : Sets → LocalItem → Bytes → Type 0
Shows sets local text = (strings : RowStrings) × (shown_of local ≡ Some (row.Sealed strings)) × OpensHeld sets local.uuid (sealed_of strings) text

-- the set under which the strings are sealed has this nonce, by the item's key string
abbrev pub SaysNonce : RowStrings → Bytes → Type 0
SaysNonce strings nonce = (reading : Reading) × Is003 strings.enc reading × (nonce ≡ reading.params.pw_nonce)

-- it opens under no set that is held
abbrev pub IsClosed : Sets → LocalItem → Bytes → Type 0
IsClosed sets local nonce = (strings : RowStrings) × (shown_of local ≡ Some (row.Sealed strings))
    × OpensNowhere sets local.uuid (sealed_of strings) × SaysNonce strings nonce

-- ---- the list

-- 0 of what doesn't open
abbrev pub HasSize : Sets → Bytes → RowStrings → ℕ → Type 0
HasSize sets uuid strings size = ((text : Bytes) × OpensHeld sets uuid (sealed_of strings) text × (size ≡ length text))
    ⊎ (OpensNowhere sets uuid (sealed_of strings) × (size ≡ 0))

-- how it stands, and the length of its content
abbrev pub IsMarked : Sets → LocalItem → Option RowBody → Option RowBody → Mark → ℕ → Type 0
IsMarked sets local (Some row.Deleted) on how size = (how ≡ mark.Deleted) × (size ≡ 0)
IsMarked sets local (Some (row.Sealed strings)) on how size = (how ≡ mark.Draft) × HasSize sets local.uuid strings size
IsMarked sets local None (Some (row.Sealed strings)) how size =
    ((text : Bytes) × OpensHeld sets local.uuid (sealed_of strings) text × (how ≡ mark.Clean) × (size ≡ length text))
    ⊎ (OpensNowhere sets local.uuid (sealed_of strings) × (how ≡ mark.Closed) × (size ≡ 0))
-- no sound row is so
IsMarked sets local None (Some row.Deleted) how size = ⊥
IsMarked sets local None None how size = ⊥

pub record IsListed (sets : Sets) (local : LocalItem) (line : Listed) : Type 0 where
  pub uuid_is : line.uuid ≡ local.uuid
  pub kind_is : line.kind ≡ local.kind
  pub marked : IsMarked sets local local.latest local.body line.mark line.length

-- all items, by rising local number
pub record AreItems (rows : Rows) (items : List Numbered) : Type 0 where
  pub rising : IsStrictlyIncreasing (map (λ w. w.0) items)
  pub whole : (number : ℕ) (local : LocalItem) → Contains items (number, local) ↔ HasLocal rows number local

abbrev pub AreListed : Rows → Sets → List Listed → Type 0
AreListed rows sets lines = (items : List Numbered) × AreItems rows items × AllZip (λ w line. IsListed sets w.1 line) items lines

-- Tests of rows, one after another.
use Rattle.std.specs.Prelude.{◌≡◌, ◌↔◌, ◌⊎◌, ℕ, ◌≤◌, Bool, true, false, List, [], Some, IsSome, IsTrue}
use Rattle.std.specs.BTreeMap.{BTreeMap, get, get_by}
use Rattle.std.specs.Cmp.Lexicographic.{slice_cmp}
use Rattle.std.specs.Ordering.{nat_cmp}
use denote.Ref.{Bor}
use Rattle.sn_rows.specs.Kinds.{key_kind}
use Rattle.sn_rows.specs.Table.{Rows}
use Rattle.sn_rows.specs.declared.key.Key.{Key}
use Rattle.sn_rows.specs.declared.key.Key.TheVariants as key
use Rattle.sn_rows.specs.declared.kind.RowKind.{RowKind}
use Rattle.sn_rows.specs.declared.server_rows.AccountRow.{AccountRow}
use Rattle.sn_rows.specs.declared.server_rows.GenerationRow.{GenerationRow}
use Rattle.sn_rows.specs.declared.server_rows.ItemRow.{ItemRow}
use Rattle.sn_rows.specs.declared.value.Value.{Value}
use Rattle.sn_rows.specs.declared.value.Value.TheVariants as value
use Rattle.sn_row_map.specs.RowMaps.{row_in}
use Rattle.sn_row_map.specs.declared.row_map.RowMap.{RowMap}
use Rattle.sn_account.specs.Lookups.{Bytes, HasAccount, HasGeneration, HasItem}
use Rattle.sn_account.specs.Sound.{NamesItem}
use Rattle.sn_account.specs.Unsound.{HasSoundItem}

-- each row of the kind passes
abbrev pub AllPass : (Key → Value → Type 0) → RowMap → RowKind → Type 0
AllPass P map kind = (k : Key) (v : Value) → key_kind k ≡ kind → row_in map k ≡ Some v → P k v

-- ---- what is asked of a row

-- an account has one of the numbers from 1 to this one
abbrev pub IsNumbered : ℕ → Key → Type 0
IsNumbered count k = (n : ℕ) → k ≡ key.Account n → (1 ≤ n) × (n ≤ count)

-- the account is there, and has come to this generation
abbrev pub HasReached : Rows → ℕ → ℕ → Type 0
HasReached rows n g = (a : AccountRow) × HasAccount rows n a × (1 ≤ g) × (g ≤ a.generation)

abbrev pub IsReached : Rows → Key → Type 0
IsReached rows k = (n g : ℕ) → k ≡ key.Generation n g → HasReached rows n g

-- the item's account is there
abbrev pub IsOwned : Rows → ItemRow → Type 0
IsOwned rows i = (a : AccountRow) × HasAccount rows i.account a

abbrev pub HasSoundStamps : ℕ → ItemRow → Type 0
HasSoundStamps last i = (1 ≤ i.created) × (i.created ≤ i.updated) × (i.updated ≤ last)

abbrev pub HasSoundStrings : Bytes → ItemRow → Type 0
HasSoundStrings u i = (i.deleted ≡ true → (i.content ≡ []) × (i.enc ≡ [])) × (i.deleted ≡ false → NamesItem i.content u × NamesItem i.enc u)

abbrev pub IsSoundRow : Rows → ℕ → Key → Value → Type 0
IsSoundRow rows last k v = (u : Bytes) (i : ItemRow) → k ≡ key.Item u → v ≡ value.Item i → HasSoundItem rows last u i

-- ---- what differs

-- a text is among the keys of a map
abbrev pub HasText : BTreeMap (Bor (List ℕ)) (Unit {0}) → Bytes → Type 0
HasText map text = IsSome (get_by (λ k. slice_cmp nat_cmp text k.now) map)

-- a stamp is
abbrev pub HasStamp : BTreeMap ℕ (Unit {0}) → ℕ → Type 0
HasStamp map stamp = IsSome (get nat_cmp map stamp)

-- a row's stamp is met, if it is an item's: what was met before and after, and whether it was new
pub record MeetsStamp (old new : BTreeMap ℕ (Unit {0})) (v : Value) (first : Bool) : Type 0 where
  pub item : (i : ItemRow) → v ≡ value.Item i
      → (IsTrue first ↔ ¬ (HasStamp old i.updated)) × ((stamp : ℕ) → HasStamp new stamp ↔ (HasStamp old stamp ⊎ (stamp ≡ i.updated)))
  pub other : ((i : ItemRow) → v ≡ value.Item i → ⊥) → (first ≡ true) × (new ≡ old)

-- the identifiers of the accounts up to this number
abbrev pub IdentifiersDiffer : Rows → ℕ → Type 0
IdentifiersDiffer rows count = (n m : ℕ) (a b : AccountRow) → 1 ≤ n → n ≤ count → 1 ≤ m → m ≤ count → HasAccount rows n a → HasAccount rows m b
    → a.identifier ≡ b.identifier → n ≡ m

-- an account's generations up to this one are there, and their nonces differ
pub record HasGenerations (rows : Rows) (n count : ℕ) : Type 0 where
  pub there : (g : ℕ) → 1 ≤ g → g ≤ count → (r : GenerationRow) × HasGeneration rows n g r
  pub differ : (g h : ℕ) (r s : GenerationRow) → 1 ≤ g → g ≤ count → 1 ≤ h → h ≤ count → HasGeneration rows n g r → HasGeneration rows n h s
      → r.pw_nonce ≡ s.pw_nonce → g ≡ h

abbrev pub StampsDiffer : Rows → Type 0
StampsDiffer rows = (u w : Bytes) (i j : ItemRow) → HasItem rows u i → HasItem rows w j → i.updated ≡ j.updated → u ≡ w

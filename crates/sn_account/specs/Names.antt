-- Under which identifiers accounts are looked for.
use Rattle.std.specs.Prelude.{◌≡◌, ℕ, ◌==◌, List, [], Some, All, IsTrue, true}
use Rattle.std.specs.BTreeMap.{BTreeMap, get_by_text}
use Rattle.std.specs.Coded.{Coded-set, coded_bool, Π_prop, →_prop}
use Rattle.std.specs.List.{list_any}
use Rattle.std.specs.Option.{unwrap_or}
use Rattle.std.specs.declared.string.String.{String}
use Rattle.sn_row_map.specs.RowMaps.{row_in}
use Rattle.sn_row_map.specs.declared.row_map.RowMap.{RowMap}
use Rattle.sn_rows.specs.Table.{Puts}
use Rattle.sn_rows.specs.declared.change.Change.{Change}
use Rattle.sn_rows.specs.declared.key.Key.{Key}
use Rattle.sn_rows.specs.declared.key.Key.TheVariants as key
use Rattle.sn_rows.specs.declared.server_rows.AccountRow.{AccountRow}
use Rattle.sn_rows.specs.declared.value.Value.{Value}
use Rattle.sn_rows.specs.declared.value.Value.TheVariants as value
use Rattle.sn_account.specs.Lookups.{Bytes}
use Rattle.sn_account.specs.declared.names.Names.{Names}

-- the numbers that stand at an identifier
abbrev pub numbers_at : {Y : Type 0} → BTreeMap (String Y) (List ℕ) → Bytes → List ℕ
numbers_at entries identifier = unwrap_or (get_by_text entries identifier) []

-- this number is one of them
abbrev pub Lists : Names → Bytes → ℕ → Type 0
Lists names identifier n = IsTrue (list_any (λ m. m == n) (numbers_at names.entries identifier))

-- each account of the rows stands at its identifier
abbrev pub ListsRows : Names → RowMap → Type 0
ListsRows names map = (n : ℕ) (a : AccountRow) → row_in map (key.Account n) ≡ Some (value.Account a) → Lists names a.identifier n

-- the account of a row does, where it is one of an account
abbrev pub ListsRow : Names → Key → Value → Type 0
ListsRow names k v = (n : ℕ) (a : AccountRow) → k ≡ key.Account n → v ≡ value.Account a → Lists names a.identifier n

-- so does the account that a change puts
abbrev pub ListsChange : Names → Change → Type 0
ListsChange names change = (n : ℕ) (a : AccountRow) → Puts change (key.Account n) (value.Account a) → Lists names a.identifier n

-- what stands there stays
abbrev pub KeepsListed : Names → Names → Type 0
KeepsListed old new = (identifier : Bytes) (n : ℕ) → Lists old identifier n → Lists new identifier n

-- ---- each of these has at most one proof, so it may stand as a rule of a struct

Lists-prop : (names : Names) (identifier : Bytes) (n : ℕ) → IsProp (Lists names identifier n)
Lists-prop names identifier n = Coded-set coded_bool (list_any (λ m. m == n) (numbers_at names.entries identifier)) true

pub lists_rows-prop : (names : Names) (map : RowMap) → IsProp (ListsRows names map)
lists_rows-prop names map = Π_prop (λ n. Π_prop (λ a. →_prop (Lists-prop names a.identifier n)))

pub lists_changes-prop : (names : Names) (changes : List Change) → IsProp (All (ListsChange names) changes)
lists_changes-prop names changes = Π_prop (λ k. Π_prop (λ d. →_prop (Π_prop (λ n. Π_prop (λ a. →_prop (Lists-prop names a.identifier n))))))

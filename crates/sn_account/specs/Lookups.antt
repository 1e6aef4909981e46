-- What a server's rows have: the store's own row, accounts, generations of their keys, and items.
use Rattle.std.specs.Prelude.{◌≡◌, ℕ, List, Some}
use Rattle.sn_rows.specs.Table.{Rows}
use Rattle.sn_rows.specs.declared.key.Key.TheVariants as key
use Rattle.sn_rows.specs.declared.server_rows.AccountRow.{AccountRow}
use Rattle.sn_rows.specs.declared.server_rows.GenerationRow.{GenerationRow}
use Rattle.sn_rows.specs.declared.server_rows.ItemRow.{ItemRow}
use Rattle.sn_rows.specs.declared.server_rows.StoreRow.{StoreRow}
use Rattle.sn_rows.specs.declared.value.Value.TheVariants as value

abbrev pub Bytes : Type 0
Bytes = List ℕ

abbrev pub HasStore : Rows → StoreRow → Type 0
HasStore rows store = rows key.Store ≡ Some (value.Store store)

-- the account of this number
abbrev pub HasAccount : Rows → ℕ → AccountRow → Type 0
HasAccount rows n account = rows (key.Account n) ≡ Some (value.Account account)

-- the parameters of one generation of its keys
abbrev pub HasGeneration : Rows → ℕ → ℕ → GenerationRow → Type 0
HasGeneration rows n g generation = rows (key.Generation n g) ≡ Some (value.Generation generation)

abbrev pub HasItem : Rows → Bytes → ItemRow → Type 0
HasItem rows uuid item = rows (key.Item uuid) ≡ Some (value.Item item)

-- the account of this number has the identifier
abbrev pub IsNamed : Rows → Bytes → ℕ → Type 0
IsNamed rows identifier n = (account : AccountRow) × HasAccount rows n account × (account.identifier ≡ identifier)

-- no account has it
abbrev pub IsUnknown : Rows → Bytes → Type 0
IsUnknown rows identifier = (n : ℕ) → ¬ (IsNamed rows identifier n)

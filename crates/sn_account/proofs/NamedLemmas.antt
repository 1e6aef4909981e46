-- Accounts by their numbers and identifiers.
use Rattle.std.proofs.Common.{◌≡◌, true, false, Option, Some, None, IfSome, IfNone, ℕ}
use Rattle.std.specs.Prelude.{is_some}
use Rattle.sn_rows.specs.Table.{Rows}
use Rattle.sn_rows.specs.declared.server_rows.AccountRow.{AccountRow}
use Rattle.sn_rows.specs.declared.server_rows.StoreRow.{StoreRow}
use Rattle.sn_account.specs.Lookups.{Bytes, HasAccount, HasStore, IsNamed, IsUnknown}

-- a number is one account's
pub one_account : (rows : Rows) (n : ℕ) (a b : AccountRow) → HasAccount rows n a → HasAccount rows n b → a ≡ b
one_account rows n a b has other = cc

-- the store has one row
pub one_store : (rows : Rows) (a b : StoreRow) → HasStore rows a → HasStore rows b → a ≡ b
one_store rows a b has other = cc

-- an account that was found has the identifier
pub found_named : (rows : Rows) (identifier : Bytes) (found : Option ℕ) → IfSome found (IsNamed rows identifier) → is_some found ≡ true
    → (n : ℕ) × IsNamed rows identifier n
found_named rows identifier (Some n) named there = (n, named)
found_named rows identifier None named there = cc

-- where none was found it is unknown
pub none_found : (rows : Rows) (identifier : Bytes) (found : Option ℕ) → IfNone found (IsUnknown rows identifier) → is_some found ≡ false
    → IsUnknown rows identifier
none_found rows identifier (Some n) unknown gone = cc
none_found rows identifier None unknown gone = unknown

-- The first commit of a server, as the code makes it.
use Rattle.std.specs.Prelude.{◌≡◌, ℕ, List}
use Rattle.sn_rows.specs.Table.{Puts}
use Rattle.sn_rows.specs.declared.change.Change.{Change}
use Rattle.sn_rows.specs.declared.key.Key.TheVariants as key
use Rattle.sn_rows.specs.declared.server_rows.StoreRow.{StoreRow}
use Rattle.sn_rows.specs.declared.value.Value.TheVariants as value
use Rattle.sn_server.specs.Loads.{IsFirst}
use Rattle.sn_server.specs.Stores.{Kept, after}

-- it puts the store's own row with this secret
pub record PutsFirst (secret : List ℕ) (change : Change) : Type 0 where
  pub store : StoreRow
  pub secret_is : store.secret ≡ secret
  pub last : store.last ≡ 0
  pub accounts : store.accounts ≡ 0
  pub puts : Puts change key.Store (value.Store store)

abbrev pub IsBegun : {S : Type 0} → (S → Kept → Type 0) → Kept → List ℕ → S → Type 0
IsBegun is_open kept secret server = (changes : List Change) × IsFirst secret changes × is_open server (after kept changes)

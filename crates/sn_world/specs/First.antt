-- The server's first commit.
use Rattle.std.specs.Prelude.{◌≡◌, List, [], ◌∷◌}
use Rattle.sn_laws.specs.Lookups.{Bytes}
use Rattle.sn_rows.specs.Table.{Puts}
use Rattle.sn_rows.specs.declared.change.Change.{Change}
use Rattle.sn_rows.specs.declared.key.Key.TheVariants as key
use Rattle.sn_rows.specs.declared.server_rows.StoreRow.{StoreRow}
use Rattle.sn_rows.specs.declared.value.Value.TheVariants as value
use Rattle.sn_account.specs.Lookups.{HasStore}
use Rattle.sn_world.specs.World.{OnServer, World}

-- the store's own row with this secret, no stamp given and no accounts
pub record IsFirst (secret : Bytes) (changes : List Change) : Type 0 where
  pub store : StoreRow
  pub secret_is : store.secret ≡ secret
  pub last : store.last ≡ 0
  pub accounts : store.accounts ≡ 0
  pub change : Change
  pub puts : Puts change key.Store (value.Store store)
  pub changes_are : changes ≡ change ∷ []

-- it is committed where there was no store
pub record Starts (w next : World) (secret : Bytes) (changes : List Change) : Type 0 where
  pub none : (store : StoreRow) → ¬ (HasStore w.server store)
  pub is : IsFirst secret changes
  pub on : OnServer w next changes

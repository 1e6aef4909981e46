-- What holds of a server's rows, whatever requests came.
use Rattle.std.specs.Prelude.{◌≡◌, ℕ, ◌≤◌, [], true, false, Some}
use Rattle.sn_rows.specs.Kinds.{key_kind, value_kind}
use Rattle.sn_rows.specs.Table.{Rows}
use Rattle.sn_rows.specs.declared.key.Key.{Key}
use Rattle.sn_rows.specs.declared.key.Key.TheVariants as key
use Rattle.sn_rows.specs.declared.server_rows.AccountRow.{AccountRow}
use Rattle.sn_rows.specs.declared.server_rows.GenerationRow.{GenerationRow}
use Rattle.sn_rows.specs.declared.server_rows.ItemRow.{ItemRow}
use Rattle.sn_rows.specs.declared.server_rows.StoreRow.{StoreRow}
use Rattle.sn_rows.specs.declared.value.Value.{Value}
pub use Rattle.sn_string.specs.Bounds.{most_accounts}
use Rattle.sn_string.specs.Grammar.{Is003, Reading}
use Rattle.sn_string.specs.Uuids.{uuid_text}
use Rattle.sn_sync.specs.Laws.{AreBytes}
use Rattle.sn_account.specs.Lookups.{Bytes, HasAccount, HasGeneration, HasItem, HasStore}

abbrev pub most_generations : ℕ
most_generations = 1000000

-- the text is a 003 string that names this uuid
abbrev pub NamesItem : Bytes → Bytes → Type 0
NamesItem text uuid = (reading : Reading) × Is003 text reading × (reading.uuid ≡ uuid_text uuid)

-- an item of a store with this last stamp: a deleted one has no strings, another's have the 003 form and its uuid
pub record IsSoundItem (last : ℕ) (uuid : Bytes) (item : ItemRow) : Type 0 where
  pub first : 1 ≤ item.created
  pub later : item.created ≤ item.updated
  pub given : item.updated ≤ last
  pub gone : item.deleted ≡ true → (item.content ≡ []) × (item.enc ≡ [])
  pub sealed : item.deleted ≡ false → NamesItem item.content uuid × NamesItem item.enc uuid

-- each value is of its key's kind; accounts are numbered from 1, and so are the generations of each; identifiers differ, and so do the nonces of an account, and the stamps
-- of items, whose uuids have 16 bytes
pub record IsSound (rows : Rows) : Type 0 where
  pub kinds : (k : Key) (v : Value) → rows k ≡ Some v → key_kind k ≡ value_kind v
  pub store : StoreRow
  pub stands : HasStore rows store
  pub bound : store.accounts ≤ most_accounts
  pub accounts : (n : ℕ) → 1 ≤ n → n ≤ store.accounts → (a : AccountRow) × HasAccount rows n a
  pub numbered : (n : ℕ) (v : Value) → rows (key.Account n) ≡ Some v → (1 ≤ n) × (n ≤ store.accounts)
  pub generation : (n : ℕ) (a : AccountRow) → HasAccount rows n a → (1 ≤ a.generation) × (a.generation ≤ most_generations)
  pub apart : (n m : ℕ) (a b : AccountRow) → HasAccount rows n a → HasAccount rows m b → a.identifier ≡ b.identifier → n ≡ m
  pub params : (n g : ℕ) (a : AccountRow) → HasAccount rows n a → 1 ≤ g → g ≤ a.generation → (r : GenerationRow) × HasGeneration rows n g r
  pub no_more : (n g : ℕ) (v : Value) → rows (key.Generation n g) ≡ Some v → (a : AccountRow) × HasAccount rows n a × (1 ≤ g) × (g ≤ a.generation)
  pub fresh : (n g h : ℕ) (r s : GenerationRow) → HasGeneration rows n g r → HasGeneration rows n h s → r.pw_nonce ≡ s.pw_nonce → g ≡ h
  pub named : (u : Bytes) (i : ItemRow) → HasItem rows u i → AreBytes 16 u
  pub owned : (u : Bytes) (i : ItemRow) → HasItem rows u i → (a : AccountRow) × HasAccount rows i.account a
  pub items : (u : Bytes) (i : ItemRow) → HasItem rows u i → IsSoundItem store.last u i
  pub stamps : (u w : Bytes) (i j : ItemRow) → HasItem rows u i → HasItem rows w j → i.updated ≡ j.updated → u ≡ w

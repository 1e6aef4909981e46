-- Soundness by the kinds of rows, and the first kind whose rows aren't sound.
use Rattle.std.specs.Prelude.{◌≡◌, ◌↔◌, ℕ, ◌≤◌, Option, Some, None}
use Rattle.sn_rows.specs.Kinds.{key_kind, value_kind}
use Rattle.sn_rows.specs.Table.{Rows}
use Rattle.sn_rows.specs.declared.key.Key.{Key}
use Rattle.sn_rows.specs.declared.key.Key.TheVariants as key
use Rattle.sn_rows.specs.declared.kind.RowKind.{RowKind}
use Rattle.sn_rows.specs.declared.kind.RowKind.TheVariants as kind
use Rattle.sn_rows.specs.declared.server_rows.AccountRow.{AccountRow}
use Rattle.sn_rows.specs.declared.server_rows.GenerationRow.{GenerationRow}
use Rattle.sn_rows.specs.declared.server_rows.ItemRow.{ItemRow}
use Rattle.sn_rows.specs.declared.server_rows.StoreRow.{StoreRow}
use Rattle.sn_rows.specs.declared.value.Value.{Value}
use Rattle.sn_sync.specs.Laws.{AreBytes}
use Rattle.sn_account.specs.Lookups.{Bytes, HasAccount, HasGeneration, HasItem, HasStore}
use Rattle.sn_account.specs.Sound.{IsSound, IsSoundItem, most_accounts, most_generations}

-- each value is of its key's kind
abbrev pub HasKinds : Rows → Type 0
HasKinds rows = (k : Key) (v : Value) → rows k ≡ Some v → key_kind k ≡ value_kind v

-- the store's own row is there, and counts no more accounts than there may be
abbrev pub HasSoundStore : Rows → Type 0
HasSoundStore rows = (store : StoreRow) × HasStore rows store × (store.accounts ≤ most_accounts)

-- the account is there, and its generations aren't too many
abbrev pub HasSoundAccount : Rows → ℕ → Type 0
HasSoundAccount rows n = (a : AccountRow) × HasAccount rows n a × (1 ≤ a.generation) × (a.generation ≤ most_generations)

-- accounts numbered up to this count, with identifiers that differ
pub record AreSoundAccounts (rows : Rows) (count : ℕ) : Type 0 where
  pub accounts : (n : ℕ) → 1 ≤ n → n ≤ count → HasSoundAccount rows n
  pub numbered : (n : ℕ) (v : Value) → rows (key.Account n) ≡ Some v → (1 ≤ n) × (n ≤ count)
  pub apart : (n m : ℕ) (a b : AccountRow) → HasAccount rows n a → HasAccount rows m b → a.identifier ≡ b.identifier → n ≡ m

-- the generations of each account numbered up to its present one, with nonces that differ
pub record AreSoundGenerations (rows : Rows) : Type 0 where
  pub params : (n g : ℕ) (a : AccountRow) → HasAccount rows n a → 1 ≤ g → g ≤ a.generation → (r : GenerationRow) × HasGeneration rows n g r
  pub no_more : (n g : ℕ) (v : Value) → rows (key.Generation n g) ≡ Some v → (a : AccountRow) × HasAccount rows n a × (1 ≤ g) × (g ≤ a.generation)
  pub fresh : (n g h : ℕ) (r s : GenerationRow) → HasGeneration rows n g r → HasGeneration rows n h s → r.pw_nonce ≡ s.pw_nonce → g ≡ h

-- an item of an account that is there, of a store with this last stamp
pub record HasSoundItem (rows : Rows) (last : ℕ) (u : Bytes) (i : ItemRow) : Type 0 where
  pub named : AreBytes 16 u
  pub owned : (a : AccountRow) × HasAccount rows i.account a
  pub item : IsSoundItem last u i

-- items with stamps that differ
pub record AreSoundItems (rows : Rows) (last : ℕ) : Type 0 where
  pub items : (u : Bytes) (i : ItemRow) → HasItem rows u i → HasSoundItem rows last u i
  pub stamps : (u w : Bytes) (i j : ItemRow) → HasItem rows u i → HasItem rows w j → i.updated ≡ j.updated → u ≡ w

-- the rows of a kind are sound, beside the store's own row and the accounts
abbrev pub IsSoundKind : Rows → RowKind → Type 0
IsSoundKind rows kind.Store = HasSoundStore rows
IsSoundKind rows kind.Account = (store : StoreRow) → HasStore rows store → AreSoundAccounts rows store.accounts
IsSoundKind rows kind.Generation = AreSoundGenerations rows
IsSoundKind rows kind.Item = (store : StoreRow) → HasStore rows store → AreSoundItems rows store.last
IsSoundKind rows kind.Owner = Unit {0}
IsSoundKind rows kind.Set = Unit {0}
IsSoundKind rows kind.Local = Unit {0}

-- none, where all are sound; else the first kind of which some row isn't
abbrev pub IsFirstUnsound : Rows → Option RowKind → Type 0
IsFirstUnsound rows None = IsSound rows
IsFirstUnsound rows (Some kind.Store) = ¬ (IsSoundKind rows kind.Store)
IsFirstUnsound rows (Some kind.Account) = IsSoundKind rows kind.Store × ¬ (IsSoundKind rows kind.Account)
IsFirstUnsound rows (Some kind.Generation) = IsSoundKind rows kind.Store × IsSoundKind rows kind.Account × ¬ (IsSoundKind rows kind.Generation)
IsFirstUnsound rows (Some kind.Item) =
    IsSoundKind rows kind.Store × IsSoundKind rows kind.Account × IsSoundKind rows kind.Generation × ¬ (IsSoundKind rows kind.Item)
IsFirstUnsound rows (Some kind.Owner) = ⊥
IsFirstUnsound rows (Some kind.Set) = ⊥
IsFirstUnsound rows (Some kind.Local) = ⊥

-- no kind is told just of sound rows
abbrev pub TellsSoundness : Type 0
TellsSoundness = (rows : Rows) (found : Option RowKind) → IsFirstUnsound rows found → (found ≡ None) ↔ IsSound rows

-- Which session tokens a server takes behind a change of password, and behind an item's row.
use Rattle.std.specs.Prelude.{◌≡◌, ◌≢◌, ◌⊎◌, ◌↔◌, ℕ, ◌+◌, List, [], ◌∷◌, length}
use Rattle.sn_account.specs.Lookups.{HasStore}
use Rattle.sn_account.specs.Sessions.{IsSession, session_token}
use Rattle.sn_laws.specs.Lookups.{Bytes}
use Rattle.sn_laws.specs.declared.ideal.Account.{Account}
use Rattle.sn_laws.specs.declared.ideal.Ideal.{Ideal}
use Rattle.sn_rows.specs.Table.{Puts, Rows, rows_after}
use Rattle.sn_rows.specs.declared.change.Change.{Change}
use Rattle.sn_rows.specs.declared.key.Key.{Key}
use Rattle.sn_rows.specs.declared.key.Key.TheVariants as key
use Rattle.sn_rows.specs.declared.server_rows.ItemRow.{ItemRow}
use Rattle.sn_rows.specs.declared.server_rows.StoreRow.{StoreRow}
use Rattle.sn_rows.specs.declared.value.Value.TheVariants as value
use Rattle.sn_string.specs.declared.params.KeySet.{KeySet}
use Rattle.sn_sync.specs.declared.answer.Answer.{Answer}
use Rattle.sn_changed.specs.Laws.{IsChanged}

-- the account of this number has got its next set: the token is a session of another account, which it was before; or it is this account's, of the next set
abbrev pub IsSessionAfter : Rows → StoreRow → ℕ → Account → Bytes → ℕ → Type 0
IsSessionAfter rows store number a token owner =
    ((owner ≢ number) × IsSession rows token owner) ⊎ ((owner ≡ number) × (token ≡ session_token store.secret number (length a.sets + 1)))

-- the sessions behind a change of password that is done are these
abbrev pub ChangeSessions : Type 0
ChangeSessions = (rows : Rows) (store : StoreRow) (s : Ideal) (token current : Bytes) (set : KeySet) (changes : List Change) (given : Answer)
    → HasStore rows store → (x : IsChanged rows store s token current set changes given)
    → (other : Bytes) (owner : ℕ) → IsSession (rows_after rows changes) other owner ↔ IsSessionAfter rows store x.number x.account other owner

-- and every row stays but that of the account and that of its next set
abbrev pub ChangeSpares : Type 0
ChangeSpares = (rows : Rows) (store : StoreRow) (s : Ideal) (token current : Bytes) (set : KeySet) (changes : List Change) (given : Answer)
    → (x : IsChanged rows store s token current set changes given)
    → (k : Key) → key.Account x.number ≢ k → key.Generation x.number (length x.account.sets + 1) ≢ k → rows_after rows changes k ≡ rows k

-- an item's row that is put, as that of an accepted item, leaves the sessions as they were
abbrev pub ItemSessions : Type 0
ItemSessions = (rows : Rows) (uuid : Bytes) (row : ItemRow) (change : Change) → Puts change (key.Item uuid) (value.Item row)
    → (token : Bytes) (owner : ℕ) → IsSession (rows_after rows (change ∷ [])) token owner ↔ IsSession rows token owner

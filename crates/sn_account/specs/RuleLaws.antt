-- What holds of every request that is answered by the rule, by the definitions alone.
use Rattle.std.specs.Prelude.{◌≡◌, ◌↔◌, ◌≢◌, ℕ, suc, List}
use Rattle.sn_rows.specs.Table.{Rows, rows_after}
use Rattle.sn_rows.specs.declared.change.Change.{Change}
use Rattle.sn_rows.specs.declared.key.Key.TheVariants as key
use Rattle.sn_rows.specs.declared.server_rows.ItemRow.{ItemRow}
use Rattle.sn_sync.specs.Laws.{FitsAnswer, FitsRequest}
use Rattle.sn_sync.specs.Requests.{route_of}
use Rattle.sn_sync.specs.declared.answer.Answer.{Answer}
use Rattle.sn_sync.specs.declared.answer.Answer.TheVariants as answer
use Rattle.sn_sync.specs.declared.request.Request.{Request}
use Rattle.sn_sync.specs.declared.request.Request.TheVariants as request
use Rattle.sn_account.specs.Lookups.{Bytes, HasItem, HasStore}
use Rattle.sn_account.specs.Rule.{Rule}
use Rattle.sn_account.specs.Sessions.{IsSession}
use Rattle.sn_account.specs.Sound.{IsSound}
use Rattle.sn_rows.specs.declared.server_rows.StoreRow.{StoreRow}

-- sound rows are sound after any request
abbrev pub StaysSound : Type 0
StaysSound = (rows : Rows) (r : Request) (now : ℕ) (changes : List Change) (given : Answer)
    → IsSound rows → FitsRequest r → Rule rows r now changes given → IsSound (rows_after rows changes)

-- the account whose rows a request may change: that of its session token, and the next one for a registration
abbrev pub ActsFor : Rows → Request → ℕ → Type 0
ActsFor rows (request.Register params pw) n = (store : StoreRow) × HasStore rows store × (n ≡ suc store.accounts)
ActsFor rows (request.Params identifier) n = ⊥
ActsFor rows (request.SignIn identifier pw) n = ⊥
ActsFor rows (request.ChangePw token current pw cost nonce) n = IsSession rows token n
ActsFor rows (request.Sync token items limit sync_token cursor_token) n = IsSession rows token n

-- all that an account has is as it was
pub record SparesAccount (rows now : Rows) (m : ℕ) : Type 0 where
  pub account : now (key.Account m) ≡ rows (key.Account m)
  pub generations : (g : ℕ) → now (key.Generation m g) ≡ rows (key.Generation m g)
  pub items : (u : Bytes) (i : ItemRow) → i.account ≡ m → HasItem now u i ↔ HasItem rows u i

-- a request leaves the rows of every account that it doesn't act for as they are
abbrev pub SparesEveryOther : Type 0
SparesEveryOther = (rows : Rows) (r : Request) (now : ℕ) (changes : List Change) (given : Answer) → IsSound rows → FitsRequest r → Rule rows r now changes given
    → (m : ℕ) → ((n : ℕ) → ActsFor rows r n → m ≢ n) → SparesAccount rows (rows_after rows changes) m

-- ---- within bounds

-- the status with which an answer is sent
abbrev pub status_of : Answer → ℕ
status_of (answer.Account token identifier uuid) = 200
status_of (answer.Params params) = 200
status_of (answer.Sync conflicts cursor_token retrieved saved sync_token) = 200
status_of (answer.Refused status tag further) = status

-- what is answered is within the bounds of an answer, so it is read back as it was written
abbrev pub AnswersFit : Type 0
AnswersFit = (rows : Rows) (r : Request) (now : ℕ) (changes : List Change) (given : Answer)
    → IsSound rows → FitsRequest r → Rule rows r now changes given → FitsAnswer (route_of r) (status_of given) given

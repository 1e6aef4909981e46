-- A device that has all versions of its account: an exchange of it retrieves nothing, and leaves it so.
use Rattle.std.specs.Prelude.{◌≡◌, ◌≤◌, ℕ, List, [], Some, None}
use Rattle.rand_chacha.specs.ChaCha.{ChaCha}
use Rattle.sn_account.specs.Lookups.{HasItem}
use Rattle.sn_account.specs.Rule.{Rule}
use Rattle.sn_account.specs.Sessions.{IsSession}
use Rattle.sn_account.specs.Sound.{IsSound as IsSoundServer}
use Rattle.sn_device.specs.Runs.{Act, Halt, IsRound, Round, Standing, change_to}
use Rattle.sn_device.specs.States.{Bytes, HasOwner, HasSets, token_of}
use Rattle.sn_device.specs.Steps.{Step, adopts, asks}
use Rattle.sn_laws.specs.Each.{Each}
use Rattle.sn_ready.specs.Passwds.{BehindFirst, IsChanged}
use Rattle.sn_rows.specs.Table.{Rows, rows_after}
use Rattle.sn_rows.specs.declared.change.Change.{Change}
use Rattle.sn_rows.specs.declared.device_rows.OwnerRow.{OwnerRow}
use Rattle.sn_rows.specs.declared.server_rows.ItemRow.{ItemRow}
use Rattle.sn_sets.specs.declared.sets.Sets.{Sets}
use Rattle.sn_string.specs.declared.params.KeySet.{KeySet}
use Rattle.sn_sync.specs.Tokens.{IsToken}
use Rattle.sn_sync.specs.declared.answer.Answer.{Answer}
use Rattle.sn_sync.specs.declared.answer.Answer.TheVariants as answer
use Rattle.sn_world.specs.Calls.{AreServed, Fate}

-- the device's session token is the present one of the account of some number, no cursor is kept, and none of that account's items has a stamp above that
-- of the device's sync token
pub record HasWhole (server rows : Rows) : Type 0 where
  pub owner : OwnerRow
  pub owned : HasOwner rows owner
  pub number : ℕ
  pub session : IsSession server owner.token number
  pub no_cursor : token_of owner.cursor_token ≡ None
  pub text : Bytes
  pub token_is : token_of owner.sync_token ≡ Some text
  pub stamp : ℕ
  pub stamped : IsToken text stamp
  pub all : (uuid : Bytes) (row : ItemRow) → HasItem server uuid row → row.account ≡ number → row.updated ≤ stamp

-- the answer leaves no page
abbrev pub IsLastPage : Answer → Type 0
IsLastPage (answer.Sync conflicts cursor retrieved saved token) = cursor ≡ None
IsLastPage (answer.Account token identifier uuid) = ⊥
IsLastPage (answer.Params params) = ⊥
IsLastPage (answer.Refused status tag more) = ⊥

-- and nothing is retrieved by it
abbrev pub RetrievesNothing : Answer → Type 0
RetrievesNothing (answer.Sync conflicts cursor retrieved saved token) = (cursor ≡ None) × (retrieved ≡ [])
RetrievesNothing (answer.Account token identifier uuid) = ⊥
RetrievesNothing (answer.Params params) = ⊥
RetrievesNothing (answer.Refused status tag more) = ⊥

-- an exchange over a server that answers by its rule: where its answer leaves no page, the device has all versions behind it
abbrev pub WholeBegins : Type 0
WholeBegins = (server : Rows) (at after : Standing) (round : Round) (now : ℕ) (changes : List Change) → IsRound at round after
    → Rule server round.request now changes round.given → IsLastPage round.given → HasWhole (rows_after server changes) after.rows

-- where it has all before it, nothing is retrieved, and no page is left
abbrev pub WholeStays : Type 0
WholeStays = (server : Rows) (at after : Standing) (round : Round) (now : ℕ) (changes : List Change) → IsSoundServer server → HasWhole server at.rows
    → IsRound at round after → Rule server round.request now changes round.given
    → RetrievesNothing round.given × HasWhole (rows_after server changes) after.rows

-- a change of its password that is answered and adopted leaves it all
abbrev pub WholeChanges : Type 0
WholeChanges = (server rows : Rows) (owner : OwnerRow) (sets : Sets) (set : KeySet) (words left rest : ChaCha) (kept adopted : List Change) (now : ℕ)
    (changes : List Change) (token identifier uuid : Bytes) → IsSoundServer server → HasWhole server rows → HasSets rows owner sets
    → Step rows words (asks set) kept left → Rule server (change_to owner sets.present set) now changes (answer.Account token identifier uuid)
    → Step (rows_after rows kept) left (adopts set token) adopted rest
    → HasWhole (rows_after server changes) (rows_after (rows_after rows kept) adopted)

-- so each exchange of its second row retrieves nothing, where the change is answered
abbrev pub SecondWhole : Type 0
SecondWhole = (server rows : Rows) (words : ChaCha) (password : Bytes) (cost : ℕ) (acts : List Act) (fates : List Fate) (halt : Halt)
    → IsSoundServer server → AreServed server acts fates → (x : BehindFirst server rows words acts fates)
    → (c : IsChanged password cost x.first.behind.at x.first.behind.later halt)
    → Each (λ round. RetrievesNothing round.given) c.second.behind.rounds

-- What answers about accounts tell of the rows that they leave.
use Rattle.std.specs.Prelude.{◌≡◌, ℕ, suc, List, []}
use Rattle.sn_keys.specs.Keys.{check_value}
use Rattle.sn_rows.specs.Table.{Rows, rows_after}
use Rattle.sn_rows.specs.declared.change.Change.{Change}
use Rattle.sn_rows.specs.declared.server_rows.AccountRow.{AccountRow}
use Rattle.sn_string.specs.declared.params.Params.{Params}
use Rattle.sn_sync.specs.Fits.{FitsRequest}
use Rattle.sn_sync.specs.declared.answer.Answer.TheVariants as answer
use Rattle.sn_sync.specs.declared.request.Request.TheVariants as request
use Rattle.sn_account.specs.Lookups.{Bytes, HasAccount}
use Rattle.sn_account.specs.Rule.{Rule}
use Rattle.sn_account.specs.Rules.{IsPresent}
use Rattle.sn_account.specs.Sessions.{IsSession, account_uuid}
use Rattle.sn_account.specs.Sound.{IsSound}

-- the account with this uuid has the identifier and the check value, the keys of this generation, and the token for its present one
pub record TellsAccount (rows : Rows) (token identifier uuid check : Bytes) (generation : ℕ) : Type 0 where
  pub n : ℕ
  pub uuid_is : uuid ≡ account_uuid n
  pub session : IsSession rows token n
  pub account : AccountRow
  pub there : HasAccount rows n account
  pub named : account.identifier ≡ identifier
  pub check_is : account.check ≡ check
  pub generation_is : account.generation ≡ generation

-- a registration: there is the account, with its first keys
abbrev pub RegistersTell : Type 0
RegistersTell = (rows : Rows) (params : Params) (pw : Bytes) (now : ℕ) (changes : List Change) (token identifier uuid : Bytes) → IsSound rows
    → Rule rows (request.Register params pw) now changes (answer.Account token identifier uuid)
    → (identifier ≡ params.identifier)
    × ((t : TellsAccount (rows_after rows changes) token identifier uuid (check_value pw) 1) × IsPresent (rows_after rows changes) t.n params)

-- parameters: those of the present keys of the account with the identifier
abbrev pub ParametersTell : Type 0
ParametersTell = (rows : Rows) (identifier : Bytes) (now : ℕ) (changes : List Change) (params : Params)
    → Rule rows (request.Params identifier) now changes (answer.Params params)
    → (changes ≡ []) × (params.identifier ≡ identifier) × ((n : ℕ) × IsPresent rows n params)

-- a sign-in: the password's check value is the account's
abbrev pub SignInsTell : Type 0
SignInsTell = (rows : Rows) (identifier pw : Bytes) (now : ℕ) (changes : List Change) (token name uuid : Bytes) → IsSound rows
    → Rule rows (request.SignIn identifier pw) now changes (answer.Account token name uuid)
    → (changes ≡ []) × (name ≡ identifier) × ((generation : ℕ) × TellsAccount rows token name uuid (check_value pw) generation)

-- a change of password: the account of the old token has the next keys, and a new token
abbrev pub ChangesTell : Type 0
ChangesTell = (rows : Rows) (token current pw : Bytes) (cost : ℕ) (nonce : Bytes) (now : ℕ) (changes : List Change) (next identifier uuid : Bytes) → IsSound rows
    → FitsRequest (request.ChangePw token current pw cost nonce)
    → Rule rows (request.ChangePw token current pw cost nonce) now changes (answer.Account next identifier uuid)
    → (generation : ℕ) × (TellsAccount rows token identifier uuid (check_value current) generation
    × ((t : TellsAccount (rows_after rows changes) next identifier uuid (check_value pw) (suc generation))
    × ((params : Params) × (IsPresent (rows_after rows changes) t.n params × ((params.pw_cost ≡ cost) × (params.pw_nonce ≡ nonce))))))

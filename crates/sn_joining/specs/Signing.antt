-- Signing in: the keys of a password under the account's parameters, and what a device makes of them.
use Rattle.std.specs.Prelude.{◌≡◌, ◌≢◌, ◌⊎◌, ℕ, List, Err, codes}
use Rattle.sn_keys.specs.Keys.{AreKeysOf}
use Rattle.sn_net.specs.Exchanges.{Exchange}
use Rattle.sn_rows.specs.Table.{Rows}
use Rattle.sn_rows.specs.declared.device_rows.OwnerRow.{OwnerRow}
use Rattle.sn_sets.specs.declared.sets.Sets.{Sets}
use Rattle.sn_string.specs.declared.params.KeySet.{KeySet}
use Rattle.sn_string.specs.declared.params.Params.{Params}
use Rattle.sn_sync.specs.declared.answer.Answer.TheVariants as answer
use Rattle.sn_sync.specs.declared.request.Request.TheVariants as request
use Rattle.sn_exchange.specs.Asked.{AsksOnce, IsAsked}
use Rattle.sn_device.specs.Asking.{said}
use Rattle.sn_device.specs.Runs.{IsBadCost, IsOtherOlder}
use Rattle.sn_device.specs.States.{Bytes, HasNoAccount, HasSets}
use Rattle.sn_device.specs.Steps.{Adopts, Renews}
use Rattle.sn_device.specs.declared.error.ClientError.{ClientError}
use Rattle.sn_device.specs.declared.error.ClientError.TheVariants as refusal
use Rattle.sn_device.specs.declared.error.Place.TheVariants as place
use Rattle.sn_joining.specs.declared.signing.Joining.{Joining}
use Rattle.sn_joining.specs.declared.signing.Joining.TheVariants as joining

-- the account has other keys
abbrev pub bad_auth : ClientError
bad_auth = refusal.Refused 401 (codes "bad-auth")

-- the host answered the account's parameters, of a cost that is taken, and these are the password's keys under them
pub record HasKeys (asks : List Exchange → Type 0) (host : Bytes) (least : ℕ) (identifier password : Bytes) (set : KeySet) : Type 0 where
  pub params : Params
  pub once : AsksOnce asks host (request.Params identifier) (said (answer.Params params))
  pub named : params.identifier ≡ identifier
  pub taken : ¬ (IsBadCost least params.pw_cost)
  pub keys : AreKeysOf password params set

-- why parameters are refused: they are another account's, or of a cost that isn't taken
abbrev pub RefusesParams : ℕ → Bytes → Params → ClientError → Type 0
RefusesParams least identifier params why =
    ((params.identifier ≢ identifier) × (why ≡ refusal.BadAnswer (place.Member (codes "identifier"))))
    ⊎ ((params.identifier ≡ identifier) × IsBadCost least params.pw_cost × (why ≡ refusal.Cost params.pw_cost))

-- none came, or they are refused
abbrev pub RefusesKeys : (List Exchange → Type 0) → Bytes → ℕ → Bytes → ClientError → Type 0
RefusesKeys asks host least identifier why = IsAsked asks host (request.Params identifier) (Err why)
    ⊎ ((params : Params) × AsksOnce asks host (request.Params identifier) (said (answer.Params params)) × RefusesParams least identifier params why)

-- why keys are refused on a device that holds these sets: the parameters are those of a set that is held, and the keys others
abbrev pub RefusesAgain : Sets → KeySet → ClientError → Type 0
RefusesAgain sets set why = (why ≡ refusal.WrongPassword)
    × (((set.params ≡ sets.present.params) × (set ≢ sets.present)) ⊎ ((set.params ≢ sets.present.params) × IsOtherOlder sets set))

-- what a device that holds these sets does with the keys of a password: the present set's session token is renewed, and a set that isn't held is adopted
abbrev pub JoinsAgain : Sets → KeySet → Joining → Type 0
JoinsAgain sets set joining.Begins = ⊥
JoinsAgain sets set joining.Renews = set ≡ sets.present
JoinsAgain sets set joining.Adopts = (set.params ≢ sets.present.params) × ¬ (IsOtherOlder sets set)

-- on any device
abbrev pub JoinsBy : Rows → KeySet → Joining → Type 0
JoinsBy rows set how = (HasNoAccount rows × (how ≡ joining.Begins))
    ⊎ ((owner : OwnerRow) × (sets : Sets) × HasSets rows owner sets × JoinsAgain sets set how)

-- why keys are refused on any device
abbrev pub RefusesWith : Rows → KeySet → ClientError → Type 0
RefusesWith rows set why = (why ≡ refusal.Memory)
    ⊎ ((owner : OwnerRow) × (sets : Sets) × HasSets rows owner sets × RefusesAgain sets set why)

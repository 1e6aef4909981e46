-- An account that is asked for, and a set of a password.
use Rattle.std.specs.Prelude.{◌≡◌, ◌≢◌, ℕ, List, Result, Ok, Err}
use Rattle.hex.specs.Hex.{encode_lower}
use Rattle.sn_keys.specs.Keys.{AreKeysOf}
use Rattle.sn_net.specs.Exchanges.{Exchange}
use Rattle.sn_rows.specs.declared.change.Change.{Change}
use Rattle.sn_string.specs.declared.params.KeySet.{KeySet}
use Rattle.sn_sync.specs.Requests.{route_of}
use Rattle.sn_sync.specs.declared.answer.Answer.TheVariants as answer
use Rattle.sn_sync.specs.declared.request.Request.{Request}
use Rattle.sn_sync.specs.declared.request.Route.TheVariants as route
use Rattle.sn_exchange.specs.Asked.{AsksOnce, IsAsked}
use Rattle.sn_device.specs.Asking.{said}
use Rattle.sn_device.specs.States.{Bytes}
use Rattle.sn_device.specs.declared.error.ClientError.{ClientError}

-- ---- an account

-- the answer to the request is an account
abbrev pub IsForAccount : Request → Type 0
IsForAccount r = (route_of r ≢ route.Params) × (route_of r ≢ route.Sync)

-- the host was asked, and an account came back, of this uuid and session token
abbrev pub GivesAccount : (List Exchange → Type 0) → Bytes → Request → Bytes → Bytes → Type 0
GivesAccount asks host r uuid token = (identifier : Bytes) × AsksOnce asks host r (said (answer.Account token identifier uuid))

-- an account came back, and these changes keep it; or the call ends by this refusal
abbrev pub KeepsOrNot : (List Exchange → Type 0) → Bytes → Request → (Bytes → Bytes → List Change → Type 0) → Result (List Change) ClientError → Type 0
KeepsOrNot asks host r P (Ok changes) = (uuid : Bytes) × (token : Bytes) × GivesAccount asks host r uuid token × P uuid token changes
KeepsOrNot asks host r P (Err why) = IsAsked asks host r (Err why)

-- ---- a set

-- the keys of the password under these parameters, with this nonce in hex
pub record IsSetWith (nonce identifier password : Bytes) (cost : ℕ) (set : KeySet) : Type 0 where
  pub identifier_is : set.params.identifier ≡ identifier
  pub cost_is : set.params.pw_cost ≡ cost
  pub nonce_is : set.params.pw_nonce ≡ encode_lower nonce
  pub keys : AreKeysOf password set.params set

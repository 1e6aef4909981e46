-- What comes of one request of a call.
use Rattle.std.specs.Prelude.{◌≡◌, ◌⊎◌, ◌<◌, ℕ, List, [], ◌∷◌, Result, Ok, Err, ⊤}
use Rattle.sn_net.specs.Exchanges.{Exchange}
use Rattle.sn_sync.specs.Answers.{RefusesAnswer}
use Rattle.sn_sync.specs.Refusals.{Caused}
use Rattle.sn_sync.specs.declared.answer.Answer.{Answer}
use Rattle.sn_sync.specs.declared.answer.Answer.TheVariants as answer
use Rattle.sn_sync.specs.declared.request.Request.{Request}
use Rattle.sn_sync.specs.declared.request.Route.{Route}
use Rattle.sn_sync.specs.declared.error.SyncError.{SyncError}
use Rattle.sn_sync.specs.declared.error.SyncError.TheVariants as error
use Rattle.sn_device.specs.Asking.{Fails, IsExchange, IsPlaceOf, Reply, lost, said, unheard, unread}
use Rattle.sn_device.specs.Runs.{most_exchanges}
use Rattle.sn_device.specs.States.{Bytes}
use Rattle.sn_device.specs.declared.error.ClientError.{ClientError}
use Rattle.sn_device.specs.declared.error.ClientError.TheVariants as refusal
use Rattle.sn_device.specs.declared.error.Place.{Place}

-- the refusal for a body that isn't read
abbrev pub IsRefusalFor : SyncError → ClientError → Type 0
IsRefusalFor error.Memory why = why ≡ refusal.Memory
IsRefusalFor e why = (at : Place) × IsPlaceOf e at × (why ≡ refusal.BadAnswer at)

-- the body isn't read: it is out of form, or memory is wanting
abbrev pub IsUnreadBody : Route → ℕ → Bytes → ClientError → Type 0
IsUnreadBody on status body why = (e : SyncError) × Caused (RefusesAnswer on status body) e × IsRefusalFor e why

-- what a reply comes to: the answer that it is, or the refusal by which it ends the call; memory may be wanting behind it
abbrev pub ComesTo : Reply → Result Answer ClientError → Type 0
ComesTo reply (Ok given) = reply ≡ said given
ComesTo reply (Err why) = Fails reply why ⊎ (why ≡ refusal.Memory)

-- the host was asked once, and so it replied
pub record AsksOnce (asks : List Exchange → Type 0) (host : Bytes) (r : Request) (reply : Reply) : Type 0 where
  pub exchange : Exchange
  pub is : IsExchange host r reply exchange
  pub asked : asks (exchange ∷ [])

-- memory was wanting before anything was asked; or the host was asked once, and its reply comes to this
abbrev pub IsAsked : (List Exchange → Type 0) → Bytes → Request → Result Answer ClientError → Type 0
IsAsked asks host r result = (asks [] × (result ≡ Err refusal.Memory))
    ⊎ ((reply : Reply) × AsksOnce asks host r reply × ComesTo reply result)

-- ---- a request whose refusal is an answer as any other

-- the reply is no answer: so it ends a call
abbrev pub IsNoAnswer : Reply → ClientError → Type 0
IsNoAnswer lost why = why ≡ refusal.LinkFault
IsNoAnswer unheard why = why ≡ refusal.Memory
IsNoAnswer (unread at) why = why ≡ refusal.BadAnswer at
IsNoAnswer (said given) why = ⊥

-- what a reply comes to
abbrev pub HeardAs : Reply → Result Answer ClientError → Type 0
HeardAs reply (Ok given) = reply ≡ said given
HeardAs reply (Err why) = IsNoAnswer reply why ⊎ (why ≡ refusal.Memory)

abbrev pub IsHeard : (List Exchange → Type 0) → Bytes → Request → Result Answer ClientError → Type 0
IsHeard asks host r result = (asks [] × (result ≡ Err refusal.Memory))
    ⊎ ((reply : Reply) × AsksOnce asks host r reply × HeardAs reply result)

-- behind so many exchanges of a call
abbrev pub IsHeardBehind : ℕ → (List Exchange → Type 0) → Bytes → Request → Result Answer ClientError → Type 0
IsHeardBehind made asks host r result = ((made ≡ most_exchanges) × asks [] × (result ≡ Err refusal.RoundsUsed))
    ⊎ ((made < most_exchanges) × IsHeard asks host r result)

-- the answer is no refusal
abbrev pub IsGranted : Answer → Type 0
IsGranted (answer.Account token identifier uuid) = ⊤
IsGranted (answer.Params params) = ⊤
IsGranted (answer.Sync conflicts cursor retrieved saved token) = ⊤
IsGranted (answer.Refused status tag more) = ⊥

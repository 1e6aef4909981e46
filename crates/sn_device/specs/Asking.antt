-- What a device asks a server for, and what comes back: requests and answers as values, and the bytes of each exchange over the link.
use Rattle.std.specs.Prelude.{◌≡◌, ◌⊎◌, ◌++◌, ℕ, [], Option, Some, None, codes}
use Rattle.sn_http.specs.Answers.{IsAnswer as IsHttpAnswer}
use Rattle.sn_http.specs.Requests.{request as http_request}
use Rattle.sn_net.specs.Exchanges.{Exchange}
use Rattle.sn_sync.specs.Answers.{IsAnswer, RefusesAnswer}
use Rattle.sn_sync.specs.Requests.{route_of}
use Rattle.sn_sync.specs.Routes.{method_of, path_to}
use Rattle.sn_sync.specs.Written.{WritesRequest}
use Rattle.sn_sync.specs.declared.answer.Answer.{Answer}
use Rattle.sn_sync.specs.declared.answer.Answer.TheVariants as answer
use Rattle.sn_sync.specs.declared.error.SyncError.{SyncError}
use Rattle.sn_sync.specs.declared.error.SyncError.TheVariants as error
use Rattle.sn_sync.specs.declared.request.Request.{Request}
use Rattle.sn_sync.specs.declared.request.Request.TheVariants as request
use Rattle.sn_sync.specs.declared.request.Route.{Route}
use Rattle.sn_sync.specs.declared.request.Route.TheVariants as route
use Rattle.sn_device.specs.States.{Bytes}
use Rattle.sn_device.specs.declared.error.ClientError.{ClientError}
use Rattle.sn_device.specs.declared.error.ClientError.TheVariants as refusal
use Rattle.sn_device.specs.declared.error.Place.{Place}
use Rattle.sn_device.specs.declared.error.Place.TheVariants as place

-- what comes back
pub data Reply : Type 0 where
  -- nothing: the link failed
  lost : Reply
  -- bytes that weren't read, since memory was wanting
  unheard : Reply
  -- bytes that are no answer, from this place on
  unread : Place → Reply
  said : Answer → Reply

-- ---- the bytes of an exchange

-- the target: a request for parameters has its text as the query (RFC 9112, 3.2.1)
abbrev pub target_of : Route → Bytes → Bytes
target_of route.Params text = path_to route.Params ++ (codes "?" ++ text)
target_of route.Register text = path_to route.Register
target_of route.SignIn text = path_to route.SignIn
target_of route.ChangePw text = path_to route.ChangePw
target_of route.Sync text = path_to route.Sync

-- and each other one as the body
abbrev pub body_of : Route → Bytes → Bytes
body_of route.Params text = []
body_of route.Register text = text
body_of route.SignIn text = text
body_of route.ChangePw text = text
body_of route.Sync text = text

-- the session token that goes with it; none is the empty text
abbrev pub session_of : Request → Bytes
session_of (request.Register params pw) = []
session_of (request.Params identifier) = []
session_of (request.SignIn identifier pw) = []
session_of (request.ChangePw token current pw cost nonce) = token
session_of (request.Sync token items limit sync_token cursor_token) = token

-- the request as it is sent to a host
abbrev pub IsRequestBytes : Bytes → Request → Bytes → Type 0
IsRequestBytes host r bytes = (text : Bytes) × WritesRequest r text
    × (bytes ≡ http_request (method_of (route_of r)) (target_of (route_of r) text) host (session_of r) (body_of (route_of r) text))

-- the place of what isn't read; want of memory has none
abbrev pub IsPlaceOf : SyncError → Place → Type 0
IsPlaceOf error.NotJson at = at ≡ place.Json
IsPlaceOf (error.Member name) at = at ≡ place.Member name
IsPlaceOf (error.Limit name number) at = at ≡ place.Member name
IsPlaceOf error.Memory at = ⊥

-- the bytes aren't one HTTP answer, or its body is out of form
abbrev pub IsUnread : Route → Bytes → Place → Type 0
IsUnread on bytes at =
    (((status : ℕ) (body : Bytes) → ¬ (IsHttpAnswer bytes status body)) × (at ≡ place.Head))
    ⊎ ((status : ℕ) × (body : Bytes) × (e : SyncError) × IsHttpAnswer bytes status body × RefusesAnswer on status body e × IsPlaceOf e at)

-- the bytes that come back are this reply, on the request's route
abbrev pub IsReply : Route → Option Bytes → Reply → Type 0
IsReply on None r = r ≡ lost
IsReply on (Some bytes) lost = ⊥
IsReply on (Some bytes) unheard = Unit {0}
IsReply on (Some bytes) (unread at) = IsUnread on bytes at
IsReply on (Some bytes) (said given) = (status : ℕ) × (body : Bytes) × IsHttpAnswer bytes status body × IsAnswer on status body given

-- the request was sent to this host, and this came back
pub record IsExchange (host : Bytes) (r : Request) (reply : Reply) (x : Exchange) : Type 0 where
  pub host_is : x.host ≡ host
  pub sent : IsRequestBytes host r x.request
  pub came : IsReply (route_of r) x.answer reply

-- ---- replies that end a call

-- the link failed, memory was wanting, the bytes are no answer, or the server refuses
abbrev pub Fails : Reply → ClientError → Type 0
Fails lost why = why ≡ refusal.LinkFault
Fails unheard why = why ≡ refusal.Memory
Fails (unread at) why = why ≡ refusal.BadAnswer at
Fails (said (answer.Refused status tag further)) why = why ≡ refusal.Refused status tag
Fails (said (answer.Account token identifier uuid)) why = ⊥
Fails (said (answer.Params params)) why = ⊥
Fails (said (answer.Sync conflicts cursor retrieved saved token)) why = ⊥

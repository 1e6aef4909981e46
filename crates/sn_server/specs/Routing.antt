-- Where a request goes, by its method and its path, and what it is answered where it goes nowhere or can't be read.
use Rattle.std.specs.Prelude.{◌≡◌, ◌≢◌, ◌⊎◌, ℕ, ◌==◌, List, [], ◌∷◌, codes, Option, Some, None, if◌then◌else◌}
use Rattle.std.specs.Str.{bytes_eq}
use Rattle.sn_http.specs.declared.message.Message.{Message}
use Rattle.sn_sync.specs.Requests.{IsRequest, RefusesRequest}
use Rattle.sn_sync.specs.Routes.{method_of, path_to}
use Rattle.sn_sync.specs.declared.answer.Answer.{Answer}
use Rattle.sn_sync.specs.declared.answer.Answer.TheVariants as answer
use Rattle.sn_sync.specs.declared.answer.More.TheVariants as more
use Rattle.sn_sync.specs.declared.error.SyncError.{SyncError}
use Rattle.sn_sync.specs.declared.error.SyncError.TheVariants as error
use Rattle.sn_sync.specs.declared.request.Request.{Request}
use Rattle.sn_sync.specs.declared.request.Route.{Route}
use Rattle.sn_sync.specs.declared.request.Route.TheVariants as route

-- what stands before the first question mark of a target (RFC 9112, 3.2.1)
abbrev pub path_of : List ℕ → List ℕ
path_of [] = []
path_of (byte ∷ bytes) = if byte == 63 then [] else byte ∷ path_of bytes

-- what stands behind it
abbrev pub query_of : List ℕ → List ℕ
query_of [] = []
query_of (byte ∷ bytes) = if byte == 63 then bytes else query_of bytes

abbrev pub route_at : List ℕ → Option Route
route_at path =
    if bytes_eq path (path_to route.Register) then Some route.Register
    else if bytes_eq path (path_to route.Params) then Some route.Params
    else if bytes_eq path (path_to route.SignIn) then Some route.SignIn
    else if bytes_eq path (path_to route.ChangePw) then Some route.ChangePw
    else if bytes_eq path (path_to route.Sync) then Some route.Sync
    else None

-- the text that is read: for parameters the query, else the body
abbrev pub text_of : Route → Message → List ℕ
text_of route.Register message = message.body
text_of route.Params message = query_of message.target
text_of route.SignIn message = message.body
text_of route.ChangePw message = message.body
text_of route.Sync message = message.body

-- the message goes to this route
abbrev pub GoesTo : Message → Route → Type 0
GoesTo message on = (route_at (path_of message.target) ≡ Some on) × (message.method ≡ method_of on)

-- the message is this request
abbrev pub AsksFor : Message → Request → Type 0
AsksFor message request = (on : Route) × GoesTo message on × IsRequest on message.token (text_of on message) request

-- the answer to a text that isn't read
abbrev pub refusal_of : SyncError → Answer
refusal_of error.NotJson = answer.Refused 400 (codes "not-json") more.Nothing
refusal_of (error.Member name) = answer.Refused 400 (codes "member") (more.Name name)
refusal_of (error.Limit name number) = answer.Refused 400 (codes "limit") (more.Number number)
refusal_of error.Memory = answer.Refused 503 (codes "memory") more.Nothing

-- no route has the path
abbrev pub IsNowhere : Message → Answer → List ℕ → Type 0
IsNowhere message given allow = (route_at (path_of message.target) ≡ None) × (given ≡ answer.Refused 404 (codes "no-route") more.Nothing) × (allow ≡ [])

-- the route has another method, which the answer allows
abbrev pub IsOtherMethod : Message → Answer → List ℕ → Type 0
IsOtherMethod message given allow = (on : Route) × (route_at (path_of message.target) ≡ Some on) × (message.method ≢ method_of on)
    × (given ≡ answer.Refused 405 (codes "method") more.Nothing) × (allow ≡ method_of on)

-- the text is no request of the route, for this first reason
abbrev pub IsUnread : Message → Answer → List ℕ → Type 0
IsUnread message given allow = (on : Route) × GoesTo message on × (e : SyncError) × RefusesRequest on (text_of on message) e
    × (given ≡ refusal_of e) × (allow ≡ [])

-- the message is no request, and is answered so
abbrev pub TurnsAway : Message → Answer → List ℕ → Type 0
TurnsAway message given allow = IsNowhere message given allow ⊎ (IsOtherMethod message given allow ⊎ IsUnread message given allow)

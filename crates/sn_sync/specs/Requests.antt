-- What a request says: its members, and the first of them that is out of form.
use Rattle.std.specs.Prelude.{◌≡◌, ◌⊎◌, ℕ, ◌≤◌, List, codes, Option, Some}
use Rattle.std.specs.Str.{IsUtf8}
use Rattle.serde_json.specs.Data.{Data}
use Rattle.serde_json.specs.Find.{get}
use Rattle.serde_json.specs.Read.{read}
use Rattle.sn_string.specs.declared.params.Params.{Params}
use Rattle.sn_sync.specs.Items.{RefusesList, SaysItems, sent}
use Rattle.sn_sync.specs.Members.{Bytes, IsLeftOut, IsObject, SaysCost, SaysHash, SaysIdentifier, SaysNonce, SaysNumber, SaysOptional, SaysWord}
use Rattle.sn_sync.specs.Query.{AsksFor}
use Rattle.sn_sync.specs.Refusals.{Done, Next, Then}
use Rattle.sn_sync.specs.declared.error.SyncError.{SyncError}
use Rattle.sn_sync.specs.declared.error.SyncError.TheVariants as error
use Rattle.sn_sync.specs.declared.item.Item.{Item}
use Rattle.sn_sync.specs.declared.request.Request.{Request}
use Rattle.sn_sync.specs.declared.request.Request.TheVariants as request
use Rattle.sn_sync.specs.declared.request.Route.{Route}
use Rattle.sn_sync.specs.declared.request.Route.TheVariants as route

-- ---- a body

-- the text is UTF-8 and the JSON of this object
abbrev pub HasBody : Bytes → Data → Type 0
HasBody text d = IsUtf8 text × (read text ≡ Some d) × IsObject d

-- a text that is no object's, or the first fault of its object
abbrev pub RefusesBody : (Data → SyncError → Type 0) → Bytes → SyncError → Type 0
RefusesBody refuses text e =
    (((d : Data) → ¬ (HasBody text d)) × (e ≡ error.NotJson))
    ⊎ ((d : Data) × HasBody text d × refuses d e)

-- ---- registration: POST /auth

pub record IsRegistration (d : Data) (params : Params) (pw : Bytes) : Type 0 where
  pub email : SaysIdentifier (get (codes "email") d) params.identifier
  pub password : SaysHash (get (codes "password") d) pw
  pub pw_cost : SaysCost (get (codes "pw_cost") d) params.pw_cost
  pub pw_nonce : SaysNonce (get (codes "pw_nonce") d) params.pw_nonce
  pub version : SaysWord (codes "003") (get (codes "version") d) (codes "003")

abbrev pub RefusesCostOn : Data → SyncError → Type 0
RefusesCostOn d =
    Then (SaysCost (get (codes "pw_cost") d)) (codes "pw_cost")
    (Then (SaysNonce (get (codes "pw_nonce") d)) (codes "pw_nonce")
    (Then (SaysWord (codes "003") (get (codes "version") d)) (codes "version")
    Done))

abbrev pub RefusesRegistration : Data → SyncError → Type 0
RefusesRegistration d =
    Then (SaysIdentifier (get (codes "email") d)) (codes "email")
    (Then (SaysHash (get (codes "password") d)) (codes "password")
    (RefusesCostOn d))

-- ---- sign-in: POST /auth/sign_in

pub record IsSignIn (d : Data) (identifier pw : Bytes) : Type 0 where
  pub email : SaysIdentifier (get (codes "email") d) identifier
  pub password : SaysHash (get (codes "password") d) pw

abbrev pub RefusesSignIn : Data → SyncError → Type 0
RefusesSignIn d =
    Then (SaysIdentifier (get (codes "email") d)) (codes "email")
    (Then (SaysHash (get (codes "password") d)) (codes "password")
    Done)

-- ---- a change of password: POST /auth/change_pw

pub record IsChange (d : Data) (current pw : Bytes) (cost : ℕ) (nonce : Bytes) : Type 0 where
  pub current_password : SaysHash (get (codes "current_password") d) current
  pub new_password : SaysHash (get (codes "new_password") d) pw
  pub pw_cost : SaysCost (get (codes "pw_cost") d) cost
  pub pw_nonce : SaysNonce (get (codes "pw_nonce") d) nonce
  pub version : SaysWord (codes "003") (get (codes "version") d) (codes "003")

abbrev pub RefusesChange : Data → SyncError → Type 0
RefusesChange d =
    Then (SaysHash (get (codes "current_password") d)) (codes "current_password")
    (Then (SaysHash (get (codes "new_password") d)) (codes "new_password")
    (RefusesCostOn d))

-- ---- a sync: POST /items/sync

abbrev pub api_version : Bytes
api_version = codes "20190520"

-- how many items the answer may give: 1 to 500, and 500 where nothing is said
abbrev pub SaysLimit : Option Data → ℕ → Type 0
SaysLimit m n = (SaysNumber m n × (1 ≤ n) × (n ≤ 500)) ⊎ (IsLeftOut m × (n ≡ 500))

-- a whole number out of its range is told apart
abbrev pub RefusesLimit : Option Data → SyncError → Type 0
RefusesLimit m (error.Limit name n) = (name ≡ codes "limit") × SaysNumber m n × ¬ ((1 ≤ n) × (n ≤ 500))
RefusesLimit m (error.Member name) = (name ≡ codes "limit") × ¬ (IsLeftOut m) × ((n : ℕ) → ¬ (SaysNumber m n))
RefusesLimit m error.NotJson = ⊥
RefusesLimit m error.Memory = ⊥

pub record IsSync (d : Data) (items : List Item) (limit : ℕ) (sync_token cursor_token : Option Bytes) : Type 0 where
  pub api : SaysWord api_version (get (codes "api") d) api_version
  pub cursor : SaysOptional (get (codes "cursor_token") d) cursor_token
  pub incoming : SaysItems sent (get (codes "items") d) items
  pub bound : SaysLimit (get (codes "limit") d) limit
  pub token : SaysOptional (get (codes "sync_token") d) sync_token

abbrev pub RefusesSync : Data → SyncError → Type 0
RefusesSync d =
    Then (SaysWord api_version (get (codes "api") d)) (codes "api")
    (Then (SaysOptional (get (codes "cursor_token") d)) (codes "cursor_token")
    (Next ((items : List Item) × SaysItems sent (get (codes "items") d) items) (RefusesList sent (codes "items") (get (codes "items") d))
    (Next ((n : ℕ) × SaysLimit (get (codes "limit") d) n) (RefusesLimit (get (codes "limit") d))
    (Then (SaysOptional (get (codes "sync_token") d)) (codes "sync_token")
    Done))))

-- ---- each route

-- the object is the body of this request; a request for parameters has none
abbrev pub Says : Data → Request → Type 0
Says d (request.Register params pw) = IsRegistration d params pw
Says d (request.Params identifier) = ⊥
Says d (request.SignIn identifier pw) = IsSignIn d identifier pw
Says d (request.ChangePw token current pw cost nonce) = IsChange d current pw cost nonce
Says d (request.Sync token items limit sync_token cursor_token) = IsSync d items limit sync_token cursor_token

-- the request came with this session token, on a route that takes one
abbrev pub HasToken : Bytes → Request → Type 0
HasToken given (request.Register params pw) = Unit {0}
HasToken given (request.Params identifier) = Unit {0}
HasToken given (request.SignIn identifier pw) = Unit {0}
HasToken given (request.ChangePw token current pw cost nonce) = token ≡ given
HasToken given (request.Sync token items limit sync_token cursor_token) = token ≡ given

abbrev pub route_of : Request → Route
route_of (request.Register params pw) = route.Register
route_of (request.Params identifier) = route.Params
route_of (request.SignIn identifier pw) = route.SignIn
route_of (request.ChangePw t current pw cost nonce) = route.ChangePw
route_of (request.Sync t items limit sync_token cursor_token) = route.Sync

-- the text is the query of this request
abbrev pub SaysQuery : Bytes → Request → Type 0
SaysQuery text (request.Params identifier) = AsksFor text identifier
SaysQuery text (request.Register params pw) = ⊥
SaysQuery text (request.SignIn identifier pw) = ⊥
SaysQuery text (request.ChangePw t current pw cost nonce) = ⊥
SaysQuery text (request.Sync t items limit sync_token cursor_token) = ⊥

-- the text is the body of this request, on its route
abbrev pub SaysBody : Route → Bytes → Request → Type 0
SaysBody on text r = (route_of r ≡ on) × ((d : Data) × HasBody text d × Says d r)

-- the text is that of a request on this route: for parameters the query, else the body
abbrev pub IsRequest : Route → Bytes → Bytes → Request → Type 0
IsRequest route.Params token text r = SaysQuery text r
IsRequest route.Register token text r = SaysBody route.Register text r
IsRequest route.SignIn token text r = SaysBody route.SignIn text r
IsRequest route.ChangePw token text r = SaysBody route.ChangePw text r × HasToken token r
IsRequest route.Sync token text r = SaysBody route.Sync text r × HasToken token r

abbrev pub RefusesQuery : Bytes → SyncError → Type 0
RefusesQuery text e = ((identifier : Bytes) → ¬ (AsksFor text identifier)) × (e ≡ error.Member (codes "email"))

-- the refusal of such a text
abbrev pub RefusesRequest : Route → Bytes → SyncError → Type 0
RefusesRequest route.Params text = RefusesQuery text
RefusesRequest route.Register text = RefusesBody RefusesRegistration text
RefusesRequest route.SignIn text = RefusesBody RefusesSignIn text
RefusesRequest route.ChangePw text = RefusesBody RefusesChange text
RefusesRequest route.Sync text = RefusesBody RefusesSync text

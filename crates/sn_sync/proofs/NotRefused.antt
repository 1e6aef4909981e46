-- What is a request is not refused.
use Rattle.std.proofs.Common.{◌≡◌, ◌∙◌, inl, inr, sym, subst, ℕ, List, [], ◌∷◌, ◌≤◌, codes, false, Option}
use Rattle.serde_json.specs.Data.{Data, Items, item, no_items}
use Rattle.serde_json.specs.Find.{get}
use Rattle.sn_string.specs.declared.params.Params.{Params}
use Rattle.sn_sync.specs.Items.{AreItems, IsItem, RefusesDeleted, RefusesItem, RefusesItems, RefusesKept, RefusesList, RefusesPlace, SaysItems, SaysKind, SaysVersion, Standing, sent}
use Rattle.sn_sync.specs.Laws.{RefusesNoRequest}
use Rattle.sn_sync.specs.Members.{Bytes, SaysCost, SaysNonce, SaysWord}
use Rattle.sn_sync.specs.Requests.{HasBody, IsChange, IsRegistration, IsSignIn, IsSync, RefusesBody, RefusesChange, RefusesCostOn, RefusesLimit, RefusesQuery, RefusesRegistration, RefusesSignIn, RefusesSync, Says, SaysBody, SaysLimit, SaysQuery, route_of}
use Rattle.sn_sync.specs.declared.error.SyncError.{SyncError}
use Rattle.sn_sync.specs.declared.error.SyncError.TheVariants as error
use Rattle.sn_sync.specs.declared.item.Body.{Body}
use Rattle.sn_sync.specs.declared.item.Body.TheVariants as body
use Rattle.sn_sync.specs.declared.item.Item.{Item}
use Rattle.sn_sync.specs.declared.request.Request.{Request}
use Rattle.sn_sync.specs.declared.request.Request.TheVariants as request
use Rattle.sn_sync.specs.declared.request.Route.{Route}
use Rattle.sn_sync.specs.declared.request.Route.TheVariants as route
use Rattle.sn_sync.proofs.OneRequest.{one_body}
use Rattle.sn_sync.proofs.OneValue.{not_number, one_number, up_or_down}

-- ---- items

place_fits : (standing : Standing) (d : Data) (i : Item) (e : SyncError) → IsItem standing d i → ¬ (RefusesPlace standing d e)
place_fits standing d i e h (inl x) = x.0 i.updated_at h.updated
place_fits standing d i e h (inr (updated, inl x)) = x.0 i.uuid h.uuid
place_fits standing d i e h (inr (updated, inr (uuid, x))) = x

deleted_fits : (standing : Standing) (d : Data) (i : Item) (e : SyncError) → IsItem standing d i → SaysKind 0 (get (codes "content_type") d) i.kind
    → ¬ (RefusesDeleted standing d e)
deleted_fits standing d i e h kind (inl x) = x.0 i.kind kind
deleted_fits standing d i e h kind (inr (k, inl x)) = x.0 i.created h.created
deleted_fits standing d i e h kind (inr (k, inr (created, x))) = place_fits standing d i e h x

kept_fits : (standing : Standing) (d : Data) (i : Item) (content enc : Bytes) (e : SyncError) → IsItem standing d i
    → SaysVersion d i.kind (body.Strings content enc) → ¬ (RefusesKept standing d e)
kept_fits standing d i content enc e h version (inl x) = x.0 content version.2
kept_fits standing d i content enc e h version (inr (c, inl x)) = x.0 i.kind version.1
kept_fits standing d i content enc e h version (inr (c, inr (k, inl x))) = x.0 i.created h.created
kept_fits standing d i content enc e h version (inr (c, inr (k, inr (created, inl x)))) = x.0 false version.0
kept_fits standing d i content enc e h version (inr (c, inr (k, inr (created, inr (flag, inl x))))) = x.0 enc version.3
kept_fits standing d i content enc e h version (inr (c, inr (k, inr (created, inr (flag, inr (key, x)))))) = place_fits standing d i e h x

version_fits : (standing : Standing) (outer : Bytes) (d : Data) (i : Item) (b : Body) (e : SyncError) → IsItem standing d i → SaysVersion d i.kind b
    → ¬ (RefusesItem standing outer d e)
version_fits standing outer d i b e h version (inl x) = x.0 h.object
version_fits standing outer d i body.Deleted e h version (inr (inl x)) = deleted_fits standing d i e h version.1 x.2
version_fits standing outer d i (body.Strings content enc) e h version (inr (inl x)) = up_or_down (get (codes "deleted") d) x.1 version.0
version_fits standing outer d i body.Deleted e h version (inr (inr x)) = x.1 version.0
version_fits standing outer d i (body.Strings content enc) e h version (inr (inr x)) = kept_fits standing d i content enc e h version x.2

pub item_fits : (standing : Standing) (outer : Bytes) (d : Data) (i : Item) (e : SyncError) → IsItem standing d i → ¬ (RefusesItem standing outer d e)
item_fits standing outer d i e h x = version_fits standing outer d i i.body e h h.version x

items_fit : (standing : Standing) (outer : Bytes) (ds : Items) (is : List Item) (e : SyncError) → AreItems standing ds is → ¬ (RefusesItems standing outer ds e)
items_fit standing outer no_items is e h x = x
items_fit standing outer (item d ds) [] e h x = h
items_fit standing outer (item d ds) (i ∷ is) e h (inl x) = item_fits standing outer d i e h.0 x
items_fit standing outer (item d ds) (i ∷ is) e h (inr x) = items_fit standing outer ds is e h.1 x.1

pub list_fits : (standing : Standing) (name : Bytes) (m : Option Data) (is : List Item) (e : SyncError) → SaysItems standing m is
    → ¬ (RefusesList standing name m e)
list_fits standing name m is e (ds, says, are) (inl x) = x.0 ds says
list_fits standing name m is e (ds, says, are) (inr (es, also, x)) =
    let both = sym says ∙ also in
    let same : ds ≡ es = cc in
    let P : Items → Type 0 = λ y. AreItems standing y is in
    items_fit standing name es is e (subst P same are) x

-- ---- bodies

cost_fits : (d : Data) (cost : ℕ) (nonce : Bytes) (e : SyncError) → SaysCost (get (codes "pw_cost") d) cost → SaysNonce (get (codes "pw_nonce") d) nonce
    → SaysWord (codes "003") (get (codes "version") d) (codes "003") → ¬ (RefusesCostOn d e)
cost_fits d cost nonce e c n v (inl x) = x.0 cost c
cost_fits d cost nonce e c n v (inr (r, inl x)) = x.0 nonce n
cost_fits d cost nonce e c n v (inr (r, inr (s, inl x))) = x.0 (codes "003") v
cost_fits d cost nonce e c n v (inr (r, inr (s, inr (t, x)))) = x

registration_fits : (d : Data) (p : Params) (pw : Bytes) (e : SyncError) → IsRegistration d p pw → ¬ (RefusesRegistration d e)
registration_fits d p pw e h (inl x) = x.0 p.identifier h.email
registration_fits d p pw e h (inr (email, inl x)) = x.0 pw h.password
registration_fits d p pw e h (inr (email, inr (password, x))) = cost_fits d p.pw_cost p.pw_nonce e h.pw_cost h.pw_nonce h.version x

sign_in_fits : (d : Data) (identifier pw : Bytes) (e : SyncError) → IsSignIn d identifier pw → ¬ (RefusesSignIn d e)
sign_in_fits d identifier pw e h (inl x) = x.0 identifier h.email
sign_in_fits d identifier pw e h (inr (email, inl x)) = x.0 pw h.password
sign_in_fits d identifier pw e h (inr (email, inr (password, x))) = x

change_fits : (d : Data) (current pw : Bytes) (cost : ℕ) (nonce : Bytes) (e : SyncError) → IsChange d current pw cost nonce → ¬ (RefusesChange d e)
change_fits d current pw cost nonce e h (inl x) = x.0 current h.current_password
change_fits d current pw cost nonce e h (inr (now, inl x)) = x.0 pw h.new_password
change_fits d current pw cost nonce e h (inr (now, inr (next, x))) = cost_fits d cost nonce e h.pw_cost h.pw_nonce h.version x

pub limit_fits : (m : Option Data) (n : ℕ) (e : SyncError) → SaysLimit m n → ¬ (RefusesLimit m e)
limit_fits m n error.NotJson h x = x
limit_fits m n error.Memory h x = x
limit_fits m n (error.Member name) (inl h) x = x.2 n h.0
limit_fits m n (error.Member name) (inr h) x = x.1 h.0
limit_fits m n (error.Limit name k) (inl h) x =
    let P : ℕ → Type 0 = λ j. (1 ≤ j) × (j ≤ 500) in
    x.2 (subst P (one_number m n k h.0 x.1) (h.1, h.2))
limit_fits m n (error.Limit name k) (inr h) x = not_number m k x.1 h.0

sync_fits : (d : Data) (items : List Item) (limit : ℕ) (sync_token cursor_token : Option Bytes) (e : SyncError)
    → IsSync d items limit sync_token cursor_token → ¬ (RefusesSync d e)
sync_fits d items limit sync_token cursor_token e h (inl x) = x.0 (codes "20190520") h.api
sync_fits d items limit sync_token cursor_token e h (inr (api, inl x)) = x.0 cursor_token h.cursor
sync_fits d items limit sync_token cursor_token e h (inr (api, inr (cursor, inl x))) =
    list_fits sent (codes "items") (get (codes "items") d) items e h.incoming x
sync_fits d items limit sync_token cursor_token e h (inr (api, inr (cursor, inr (list, inl x)))) =
    limit_fits (get (codes "limit") d) limit e h.bound x
sync_fits d items limit sync_token cursor_token e h (inr (api, inr (cursor, inr (list, inr (bound, inl x))))) = x.0 sync_token h.token
sync_fits d items limit sync_token cursor_token e h (inr (api, inr (cursor, inr (list, inr (bound, inr (token, x)))))) = x

-- ---- each route

-- what an object's refusals never are, its text's are not either
body_fits : (text : Bytes) (d : Data) (refuses : Data → SyncError → Type 0) (e : SyncError) → HasBody text d → ¬ (refuses d e) → ¬ (RefusesBody refuses text e)
body_fits text d refuses e body fits (inl x) = x.0 d body
body_fits text d refuses e body fits (inr (other, has, x)) =
    let P : Data → Type 0 = λ y. refuses y e in
    fits (subst P (one_body text other d has body) x)

query_fits : (text : Bytes) (r : Request) (e : SyncError) → SaysQuery text r → ¬ (RefusesQuery text e)
query_fits text (request.Params i) e h x = x.0 i h
query_fits text (request.Register p pw) e h x = h
query_fits text (request.SignIn i pw) e h x = h
query_fits text (request.ChangePw token current pw cost nonce) e h x = h
query_fits text (request.Sync token items limit sync_token cursor_token) e h x = h

fits-Register : (d : Data) (r : Request) (e : SyncError) → route_of r ≡ route.Register → Says d r → ¬ (RefusesRegistration d e)
fits-Register d (request.Register p pw) e on h = registration_fits d p pw e h
fits-Register d (request.Params i) e on h = absurd h
fits-Register d (request.SignIn i pw) e on h = cc
fits-Register d (request.ChangePw token current pw cost nonce) e on h = cc
fits-Register d (request.Sync token items limit sync_token cursor_token) e on h = cc

fits-SignIn : (d : Data) (r : Request) (e : SyncError) → route_of r ≡ route.SignIn → Says d r → ¬ (RefusesSignIn d e)
fits-SignIn d (request.SignIn i pw) e on h = sign_in_fits d i pw e h
fits-SignIn d (request.Params i) e on h = absurd h
fits-SignIn d (request.Register p pw) e on h = cc
fits-SignIn d (request.ChangePw token current pw cost nonce) e on h = cc
fits-SignIn d (request.Sync token items limit sync_token cursor_token) e on h = cc

fits-ChangePw : (d : Data) (r : Request) (e : SyncError) → route_of r ≡ route.ChangePw → Says d r → ¬ (RefusesChange d e)
fits-ChangePw d (request.ChangePw token current pw cost nonce) e on h = change_fits d current pw cost nonce e h
fits-ChangePw d (request.Params i) e on h = absurd h
fits-ChangePw d (request.Register p pw) e on h = cc
fits-ChangePw d (request.SignIn i pw) e on h = cc
fits-ChangePw d (request.Sync token items limit sync_token cursor_token) e on h = cc

fits-Sync : (d : Data) (r : Request) (e : SyncError) → route_of r ≡ route.Sync → Says d r → ¬ (RefusesSync d e)
fits-Sync d (request.Sync token items limit sync_token cursor_token) e on h = sync_fits d items limit sync_token cursor_token e h
fits-Sync d (request.Params i) e on h = absurd h
fits-Sync d (request.Register p pw) e on h = cc
fits-Sync d (request.SignIn i pw) e on h = cc
fits-Sync d (request.ChangePw token current pw cost nonce) e on h = cc

-- the object of a request's body
route_fits : (on : Route) (text : Bytes) (r : Request) (refuses : Data → SyncError → Type 0) (e : SyncError)
    → ((d : Data) → route_of r ≡ on → Says d r → ¬ (refuses d e)) → SaysBody on text r → ¬ (RefusesBody refuses text e)
route_fits on text r refuses e fits (is, (d, body, says)) = body_fits text d refuses e body (fits d is says)

pub requests_not_refused : RefusesNoRequest
requests_not_refused route.Params token text r e h = query_fits text r e h
requests_not_refused route.Register token text r e h = route_fits route.Register text r RefusesRegistration e (λ d. fits-Register d r e) h
requests_not_refused route.SignIn token text r e h = route_fits route.SignIn text r RefusesSignIn e (λ d. fits-SignIn d r e) h
requests_not_refused route.ChangePw token text r e h = route_fits route.ChangePw text r RefusesChange e (λ d. fits-ChangePw d r e) h.0
requests_not_refused route.Sync token text r e h = route_fits route.Sync text r RefusesSync e (λ d. fits-Sync d r e) h.0

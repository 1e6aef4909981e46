-- A text says one request at most.
use Rattle.std.proofs.Props.{props}
use mathlib.Core.HLevel.{is_prop→PathP}
use Rattle.sn_sync.specs.Stamps.{IsStampOrNone}
use Rattle.std.proofs.Common.{◌≡◌, ◌∙◌, sym, ap, subst, ℕ, List, [], ◌∷◌, codes, Option, Some, None, refl}
use Rattle.serde_json.specs.Data.{Data, Items, item, no_items}
use Rattle.serde_json.specs.Find.{get}
use Rattle.sn_string.specs.declared.params.Params.{Params}
use Rattle.sn_string.proofs.Facts.{same_params}
use Rattle.sn_sync.specs.Items.{AreItems, IsItem, SaysCreated, SaysItems, SaysUpdated, SaysVersion, Standing, sent, stored}
use Rattle.sn_sync.specs.Laws.{HasOneRequest}
use Rattle.sn_sync.specs.Members.{Bytes}
use Rattle.sn_sync.specs.Requests.{HasBody, HasToken, IsRegistration, Says, SaysBody, SaysQuery, route_of}
use Rattle.sn_sync.specs.declared.item.Body.{Body}
use Rattle.sn_sync.specs.declared.item.Body.TheVariants as body
use Rattle.sn_sync.specs.declared.item.Item.{Item}
use Rattle.sn_sync.specs.declared.request.Request.{Request}
use Rattle.sn_sync.specs.declared.request.Request.TheVariants as request
use Rattle.sn_sync.specs.declared.request.Route.{Route}
use Rattle.sn_sync.specs.declared.request.Route.TheVariants as route
use Rattle.sn_sync.proofs.OneValue.{one_hash, one_limit, one_number, one_optional, one_text, one_text_or_empty, one_uuid, up_or_down}

-- ---- items

pub one_version : (d : Data) (k l : Bytes) (b c : Body) → SaysVersion d k b → SaysVersion d l c → (k ≡ l) × (b ≡ c)
one_version d k l body.Deleted body.Deleted x y = (one_text_or_empty (get (codes "content_type") d) k l x.1.0 y.1.0, refl)
one_version d k l body.Deleted (body.Strings content enc) x y = absurd (up_or_down (get (codes "deleted") d) x.0 y.0)
one_version d k l (body.Strings content enc) body.Deleted x y = absurd (up_or_down (get (codes "deleted") d) y.0 x.0)
one_version d k l (body.Strings content enc) (body.Strings other key) x y =
    let same : content ≡ other = one_text_or_empty (get (codes "content") d) content other x.2 y.2 in
    let keys : enc ≡ key = one_text_or_empty (get (codes "enc_item_key") d) enc key x.3 y.3 in
    (one_text_or_empty (get (codes "content_type") d) k l x.1.0 y.1.0, cc)

pub one_updated : (standing : Standing) (m : Option Data) (a b : Option Bytes) → SaysUpdated standing m a → SaysUpdated standing m b → a ≡ b
one_updated sent m a b h k = one_optional m a b h k
one_updated stored m None b h k = absurd h
one_updated stored m (Some a) None h k = absurd k
one_updated stored m (Some a) (Some b) h k = ap Some (one_text m a b h.0 k.0)

-- the stamp of the first acceptance is one
abbrev pub HasOneCreated : Standing → Type 0
HasOneCreated standing = (m : Option Data) (a b : Option ℕ) → SaysCreated standing m a → SaysCreated standing m b → a ≡ b

pub one_created-sent : HasOneCreated sent
one_created-sent m a b h k = h ∙ sym k

pub one_item : (standing : Standing) → HasOneCreated standing → (d : Data) (i j : Item) → IsItem standing d i → IsItem standing d j → i ≡ j
one_item standing one d i j h k =
    let uuid : i.uuid ≡ j.uuid = one_uuid (get (codes "uuid") d) i.uuid j.uuid h.uuid k.uuid in
    let created : i.created ≡ j.created = one (get (codes "created_at") d) i.created j.created h.created k.created in
    let updated : i.updated_at ≡ j.updated_at = one_updated standing (get (codes "updated_at") d) i.updated_at j.updated_at h.updated k.updated in
    let version : (i.kind ≡ j.kind) × (i.body ≡ j.body) = one_version d i.kind j.kind i.body j.body h.version k.version in
    λ at. record {
      uuid = uuid at;
      kind = version.0 at;
      created = created at;
      updated_at = updated at;
      body = version.1 at;
      created_fits = is_prop→PathP (λ k. IsStampOrNone (created k)) (λ k. hlevel props) i.created_fits j.created_fits at;
    }

pub same_items : (standing : Standing) → HasOneCreated standing → (ds : Items) (is js : List Item) → AreItems standing ds is → AreItems standing ds js → is ≡ js
same_items standing one no_items [] [] h k = refl
same_items standing one no_items [] (j ∷ js) h k = absurd k
same_items standing one no_items (i ∷ is) js h k = absurd h
same_items standing one (item d ds) [] js h k = absurd h
same_items standing one (item d ds) (i ∷ is) [] h k = absurd k
same_items standing one (item d ds) (i ∷ is) (j ∷ js) h k =
    let first = one_item standing one d i j h.0 k.0 in
    let others = same_items standing one ds is js h.1 k.1 in
    cc

pub one_list : (standing : Standing) → HasOneCreated standing → (m : Option Data) (is js : List Item) → SaysItems standing m is → SaysItems standing m js → is ≡ js
one_list standing one m is js (ds, says, are) (es, also, were) =
    let e = sym says ∙ also in
    let same : ds ≡ es = cc in
    let P : Items → Type 0 = λ x. AreItems standing x is in
    same_items standing one es is js (subst P same are) were

-- ---- requests

one_registration : (d : Data) (p q : Params) (pw other : Bytes) → IsRegistration d p pw → IsRegistration d q other → (p ≡ q) × (pw ≡ other)
one_registration d p q pw other h k =
    let identifier = one_text (get (codes "email") d) p.identifier q.identifier h.email.0 k.email.0 in
    let cost = one_number (get (codes "pw_cost") d) p.pw_cost q.pw_cost h.pw_cost.0 k.pw_cost.0 in
    let nonce = one_text (get (codes "pw_nonce") d) p.pw_nonce q.pw_nonce h.pw_nonce.0 k.pw_nonce.0 in
    (same_params p q identifier cost nonce, one_hash (get (codes "password") d) pw other h.password k.password)

-- an object is the body of one request with this session token
one_says : (d : Data) (given : Bytes) (a b : Request) → route_of a ≡ route_of b → Says d a → Says d b → HasToken given a → HasToken given b → a ≡ b
one_says d given (request.Params i) b e h k s t = absurd h
one_says d given (request.Register p pw) (request.Params i) e h k s t = absurd k
one_says d given (request.Register p pw) (request.Register q other) e h k s t = let same = one_registration d p q pw other h k in cc
one_says d given (request.Register p pw) (request.SignIn i other) e h k s t = cc
one_says d given (request.Register p pw) (request.ChangePw token current other cost nonce) e h k s t = cc
one_says d given (request.Register p pw) (request.Sync token items limit sync_token cursor_token) e h k s t = cc
one_says d given (request.SignIn i pw) (request.Params j) e h k s t = absurd k
one_says d given (request.SignIn i pw) (request.Register q other) e h k s t = cc
one_says d given (request.SignIn i pw) (request.SignIn j other) e h k s t =
    let identifier = one_text (get (codes "email") d) i j h.email.0 k.email.0 in
    let keys = one_hash (get (codes "password") d) pw other h.password k.password in
    cc
one_says d given (request.SignIn i pw) (request.ChangePw token current other cost nonce) e h k s t = cc
one_says d given (request.SignIn i pw) (request.Sync token items limit sync_token cursor_token) e h k s t = cc
one_says d given (request.ChangePw token current pw cost nonce) (request.Params j) e h k s t = absurd k
one_says d given (request.ChangePw token current pw cost nonce) (request.Register q other) e h k s t = cc
one_says d given (request.ChangePw token current pw cost nonce) (request.SignIn j other) e h k s t = cc
one_says d given (request.ChangePw token current pw cost nonce) (request.ChangePw token' current' pw' cost' nonce') e h k s t =
    let currents = one_hash (get (codes "current_password") d) current current' h.current_password k.current_password in
    let keys = one_hash (get (codes "new_password") d) pw pw' h.new_password k.new_password in
    let costs = one_number (get (codes "pw_cost") d) cost cost' h.pw_cost.0 k.pw_cost.0 in
    let nonces = one_text (get (codes "pw_nonce") d) nonce nonce' h.pw_nonce.0 k.pw_nonce.0 in
    cc
one_says d given (request.ChangePw token current pw cost nonce) (request.Sync token' items limit sync_token cursor_token) e h k s t = cc
one_says d given (request.Sync token items limit sync_token cursor_token) (request.Params j) e h k s t = absurd k
one_says d given (request.Sync token items limit sync_token cursor_token) (request.Register q other) e h k s t = cc
one_says d given (request.Sync token items limit sync_token cursor_token) (request.SignIn j other) e h k s t = cc
one_says d given (request.Sync token items limit sync_token cursor_token) (request.ChangePw token' current other cost nonce) e h k s t = cc
one_says d given (request.Sync token items limit sync_token cursor_token) (request.Sync token' items' limit' sync_token' cursor_token') e h k s t =
    let cursors = one_optional (get (codes "cursor_token") d) cursor_token cursor_token' h.cursor k.cursor in
    let lists = one_list sent one_created-sent (get (codes "items") d) items items' h.incoming k.incoming in
    let limits = one_limit (get (codes "limit") d) limit limit' h.bound k.bound in
    let tokens = one_optional (get (codes "sync_token") d) sync_token sync_token' h.token k.token in
    cc

-- on a route that takes none, any session token will do
any-Register : (given : Bytes) (r : Request) → route_of r ≡ route.Register → HasToken given r
any-Register given (request.Register p pw) e = tt
any-Register given (request.Params i) e = tt
any-Register given (request.SignIn i pw) e = tt
any-Register given (request.ChangePw token current pw cost nonce) e = cc
any-Register given (request.Sync token items limit sync_token cursor_token) e = cc

any-SignIn : (given : Bytes) (r : Request) → route_of r ≡ route.SignIn → HasToken given r
any-SignIn given (request.Register p pw) e = tt
any-SignIn given (request.Params i) e = tt
any-SignIn given (request.SignIn i pw) e = tt
any-SignIn given (request.ChangePw token current pw cost nonce) e = cc
any-SignIn given (request.Sync token items limit sync_token cursor_token) e = cc

pub one_body : (text : Bytes) (d e : Data) → HasBody text d → HasBody text e → d ≡ e
one_body text d e h k = let same = sym h.1 ∙ k.1 in cc

one_on : (on : Route) (given text : Bytes) (a b : Request) → SaysBody on text a → SaysBody on text b → HasToken given a → HasToken given b → a ≡ b
one_on on given text a b (r, (d, body, says)) (q, (e, other, also)) s t =
    let P : Data → Type 0 = λ x. Says x a in
    one_says e given a b (r ∙ sym q) (subst P (one_body text d e body other) says) also s t

one_query : (text : Bytes) (a b : Request) → SaysQuery text a → SaysQuery text b → a ≡ b
one_query text (request.Params i) (request.Params j) h k = let same = sym h.0 ∙ k.0 in cc
one_query text (request.Params i) (request.Register q pw) h k = absurd k
one_query text (request.Params i) (request.SignIn j pw) h k = absurd k
one_query text (request.Params i) (request.ChangePw token current pw cost nonce) h k = absurd k
one_query text (request.Params i) (request.Sync token items limit sync_token cursor_token) h k = absurd k
one_query text (request.Register q pw) b h k = absurd h
one_query text (request.SignIn j pw) b h k = absurd h
one_query text (request.ChangePw token current pw cost nonce) b h k = absurd h
one_query text (request.Sync token items limit sync_token cursor_token) b h k = absurd h

pub one_request : HasOneRequest
one_request route.Params token text a b h k = one_query text a b h k
one_request route.Register token text a b h k =
    one_on route.Register token text a b h k (any-Register token a h.0) (any-Register token b k.0)
one_request route.SignIn token text a b h k =
    one_on route.SignIn token text a b h k (any-SignIn token a h.0) (any-SignIn token b k.0)
one_request route.ChangePw token text a b h k = one_on route.ChangePw token text a b h.0 k.0 h.1 k.1
one_request route.Sync token text a b h k = one_on route.Sync token text a b h.0 k.0 h.1 k.1

-- What a text says is within its bounds.
use Rattle.std.proofs.Common.{arith, ◌≡◌, ◌≢◌, subst, inl, inr, refl, ℕ, ◌<◌, ◌≤◌, Bool, true, false, cond, List, [], ◌∷◌, Option, Some, None, codes}
use Rattle.std.specs.List.{All}
use Rattle.std.specs.Str.{IsUtf8, bytes_eq}
use Rattle.std.specs.Str.Lossy.{utf8_lossy}
use Rattle.std.proofs.lemmas.List.Elements.{All-cons, All-from_get_or, All-nil}
use Rattle.form_urlencoded.specs.Form.{decode, raw_pairs}
use Rattle.serde_json.specs.Data.{Data, Items, item, no_items}
use Rattle.serde_json.specs.Find.{get}
use Rattle.sn_sync.specs.Answers.{AreConflicts, IsAccount, IsAnswer, SaysConflict, SaysMore, SaysOn, SaysRefused}
use Rattle.sn_sync.specs.Fits.{AreBytes, FitsAnswer, FitsConflict, FitsKind, FitsMore, FitsRequest, FitsSent, FitsStored}
use Rattle.sn_sync.specs.Items.{AreItems, IsItem, SaysCreated, SaysUpdated, SaysVersion, sent, stored}
use Rattle.sn_sync.specs.Members.{Bytes, SaysHash, SaysUuid}
use Rattle.sn_sync.specs.Query.{first_of}
use Rattle.sn_sync.specs.Requests.{IsRequest, Says, SaysBody, SaysLimit, SaysQuery}
use Rattle.sn_sync.specs.Stamps.{IsStampText}
use Rattle.sn_sync.specs.declared.answer.Answer.{Answer}
use Rattle.sn_sync.specs.declared.answer.Answer.TheVariants as answer
use Rattle.sn_sync.specs.declared.answer.Conflict.{Conflict}
use Rattle.sn_sync.specs.declared.answer.Conflict.TheVariants as conflict
use Rattle.sn_sync.specs.declared.answer.More.{More}
use Rattle.sn_sync.specs.declared.answer.More.TheVariants as more
use Rattle.sn_sync.specs.declared.item.Body.{Body}
use Rattle.sn_sync.specs.declared.item.Body.TheVariants as body
use Rattle.sn_sync.specs.declared.item.Item.{Item}
use Rattle.sn_sync.specs.declared.request.Request.{Request}
use Rattle.sn_sync.specs.declared.request.Request.TheVariants as request
use Rattle.sn_sync.specs.declared.request.Route.{Route}
use Rattle.sn_sync.specs.declared.request.Route.TheVariants as route
use Rattle.sn_sync.proofs.LossyText.{IsUtf8-utf8_lossy}

-- ---- members

hash_fits : (m : Option Data) (bytes : Bytes) → SaysHash m bytes → AreBytes 32 bytes
hash_fits m bytes (digits, says, spelled) =
    (spelled.count, All-from_get_or (λ b. b < 256) bytes 0 (λ i within. spelled.fit i))

uuid_fits : (m : Option Data) (uuid : Bytes) → SaysUuid m uuid → AreBytes 16 uuid
uuid_fits m uuid (text, says, spelled) = (spelled.count, spelled.fit)

limit_fits : (m : Option Data) (n : ℕ) → SaysLimit m n → (1 ≤ n) × (n ≤ 500)
limit_fits m n (inl h) = (h.1, h.2)
limit_fits m n (inr h) = (omega (arith, h.1), omega (arith, h.1))

-- ---- items

kind_fits : (d : Data) (kind : Bytes) (b : Body) → SaysVersion d kind b → FitsKind b kind
kind_fits d kind body.Deleted h = h.1.2
kind_fits d kind (body.Strings content enc) h = (h.1.1, h.1.2)

sent_fits : (d : Data) (i : Item) → IsItem sent d i → FitsSent i
sent_fits d i h = record {
  uuid = uuid_fits (get (codes "uuid") d) i.uuid h.uuid;
  kind = kind_fits d i.kind i.body h.version;
  created = h.created;
}

first_of_stored : (m : Option Data) (created : Option ℕ) → SaysCreated stored m created → (first : ℕ) × (created ≡ Some first)
first_of_stored m None h = absurd h
first_of_stored m (Some stamp) h = (stamp, refl)

last_of_stored : (m : Option Data) (updated_at : Option Bytes) → SaysUpdated stored m updated_at
    → (text : Bytes) × (updated_at ≡ Some text) × ((last : ℕ) × IsStampText text last)
last_of_stored m None h = absurd h
last_of_stored m (Some text) h = (text, refl, h.1)

stored_fits : (d : Data) (i : Item) → IsItem stored d i → FitsStored i
stored_fits d i h =
    let first = first_of_stored (get (codes "created_at") d) i.created h.created in
    let last = last_of_stored (get (codes "updated_at") d) i.updated_at h.updated in
    record {
      uuid = uuid_fits (get (codes "uuid") d) i.uuid h.uuid;
      kind = kind_fits d i.kind i.body h.version;
      first = first.0;
      created = first.1;
      text = last.0;
      updated_at = last.1;
      last = last.2.0;
      stamped = last.2.1;
    }

all_sent : (ds : Items) (is : List Item) → AreItems sent ds is → All FitsSent is
all_sent no_items [] h = All-nil FitsSent
all_sent no_items (i ∷ is) h = absurd h
all_sent (item d ds) [] h = absurd h
all_sent (item d ds) (i ∷ is) h = All-cons FitsSent i is (sent_fits d i h.0) (all_sent ds is h.1)

all_stored : (ds : Items) (is : List Item) → AreItems stored ds is → All FitsStored is
all_stored no_items [] h = All-nil FitsStored
all_stored no_items (i ∷ is) h = absurd h
all_stored (item d ds) [] h = absurd h
all_stored (item d ds) (i ∷ is) h = All-cons FitsStored i is (stored_fits d i h.0) (all_stored ds is h.1)

-- ---- requests

first_of_text : (name : Bytes) (pairs : List (Bytes × Bytes)) (text : Bytes) → first_of name pairs ≡ Some text → IsUtf8 text
first_of_text name [] text e = cc
first_of_text name (p ∷ ps) text e = value_text (bytes_eq (utf8_lossy (decode p.0)) name) p.1 (first_of name ps) text (first_of_text name ps text) e
  where
    value_text : (b : Bool) (value : Bytes) (others : Option Bytes) (text : Bytes) → (others ≡ Some text → IsUtf8 text)
        → cond b (Some (utf8_lossy (decode value))) others ≡ Some text → IsUtf8 text
    value_text true value others text later e =
        let same : utf8_lossy (decode value) ≡ text = cc in subst IsUtf8 same (IsUtf8-utf8_lossy (decode value))
    value_text false value others text later e = later e

pub query_fits : (text : Bytes) (r : Request) → SaysQuery text r → FitsRequest r
query_fits text (request.Params identifier) h = (h.1, first_of_text (codes "email") (raw_pairs text) identifier h.0)
query_fits text (request.Register params pw) h = absurd h
query_fits text (request.SignIn identifier pw) h = absurd h
query_fits text (request.ChangePw token current pw cost nonce) h = absurd h
query_fits text (request.Sync token items limit sync_token cursor_token) h = absurd h

pub says_fits : (d : Data) (r : Request) → Says d r → FitsRequest r
says_fits d (request.Register params pw) h = hash_fits (get (codes "password") d) pw h.password
says_fits d (request.Params identifier) h = absurd h
says_fits d (request.SignIn identifier pw) h = (h.email.1, hash_fits (get (codes "password") d) pw h.password)
says_fits d (request.ChangePw token current pw cost nonce) h = (
  hash_fits (get (codes "current_password") d) current h.current_password,
  hash_fits (get (codes "new_password") d) pw h.new_password,
  h.pw_cost.1,
  h.pw_nonce.1,
)
says_fits d (request.Sync token items limit sync_token cursor_token) h =
    let within = limit_fits (get (codes "limit") d) limit h.bound in
    (all_sent h.incoming.0 items h.incoming.2, within.0, within.1)

body_fits : (on : Route) (text : Bytes) (r : Request) → SaysBody on text r → FitsRequest r
body_fits on text r (is, (d, has, says)) = says_fits d r says

pub requests_fit : (on : Route) (token text : Bytes) (r : Request) → IsRequest on token text r → FitsRequest r
requests_fit route.Params token text r h = query_fits text r h
requests_fit route.Register token text r h = body_fits route.Register text r h
requests_fit route.SignIn token text r h = body_fits route.SignIn text r h
requests_fit route.ChangePw token text r h = body_fits route.ChangePw text r h.0
requests_fit route.Sync token text r h = body_fits route.Sync text r h.0

-- ---- answers

conflict_fits : (d : Data) (c : Conflict) → SaysConflict d c → FitsConflict c
conflict_fits d (conflict.Sync server) (kind, (inner, at, is)) = stored_fits inner server is
conflict_fits d (conflict.Uuid unsaved) (kind, (inner, at, is)) = sent_fits inner unsaved is
conflict_fits d (conflict.Content unsaved) (kind, (inner, at, is)) = sent_fits inner unsaved is

all_conflicts : (ds : Items) (cs : List Conflict) → AreConflicts ds cs → All FitsConflict cs
all_conflicts no_items [] h = All-nil FitsConflict
all_conflicts no_items (c ∷ cs) h = absurd h
all_conflicts (item d ds) [] h = absurd h
all_conflicts (item d ds) (c ∷ cs) h = All-cons FitsConflict c cs (conflict_fits d c h.0.1) (all_conflicts ds cs h.1)

more_fits : (d : Data) (further : More) → SaysMore d further → FitsMore further
more_fits d more.Nothing h = tt
more_fits d (more.Name name) h = tt
more_fits d (more.Number n) h = tt
more_fits d (more.Uuid uuid) h = uuid_fits (get (codes "uuid") d) uuid h.0
more_fits d (more.Both n uuid) h = uuid_fits (get (codes "uuid") d) uuid h.1

account_fits : (on : Route) (status : ℕ) (d : Data) (token identifier uuid : Bytes) → on ≢ route.Params → on ≢ route.Sync → status ≡ 200
    → IsAccount d token identifier uuid → FitsAnswer on status (answer.Account token identifier uuid)
account_fits on status d token identifier uuid np ns ok h =
    let user = h.user.2 in
    (np, ns, ok, h.session.1, user.email.1, uuid_fits (get (codes "uuid") h.user.0) uuid user.named)

abbrev IsForAccount : Route → Type 0
IsForAccount on = (on ≢ route.Params) × (on ≢ route.Sync)

is-Register : IsForAccount route.Register
is-Register = (λ e. let never : ⊥ = cc in never, λ e. let never : ⊥ = cc in never)

is-SignIn : IsForAccount route.SignIn
is-SignIn = (λ e. let never : ⊥ = cc in never, λ e. let never : ⊥ = cc in never)

is-ChangePw : IsForAccount route.ChangePw
is-ChangePw = (λ e. let never : ⊥ = cc in never, λ e. let never : ⊥ = cc in never)

pub accepted_fits : (on : Route) (status : ℕ) (d : Data) (a : Answer) → status ≡ 200 → SaysOn on d a → FitsAnswer on status a
accepted_fits route.Params status d (answer.Params params) ok h = (refl, ok)
accepted_fits route.Sync status d (answer.Sync conflicts cursor_token retrieved saved sync_token) ok h = (
  refl,
  ok,
  all_conflicts h.refused.0 conflicts h.refused.2,
  all_stored h.given.0 retrieved h.given.2,
  all_stored h.kept.0 saved h.kept.2,
)
accepted_fits route.Register status d (answer.Account token identifier uuid) ok h = account_fits route.Register status d token identifier uuid is-Register.0 is-Register.1 ok h
accepted_fits route.SignIn status d (answer.Account token identifier uuid) ok h = account_fits route.SignIn status d token identifier uuid is-SignIn.0 is-SignIn.1 ok h
accepted_fits route.ChangePw status d (answer.Account token identifier uuid) ok h = account_fits route.ChangePw status d token identifier uuid is-ChangePw.0 is-ChangePw.1 ok h
accepted_fits on status d a ok h = absurd h

refused_fits : (on : Route) (status : ℕ) (d : Data) (a : Answer) → status ≢ 200 → SaysRefused status d a → FitsAnswer on status a
refused_fits on status d (answer.Refused s tag further) other (same, (inner, at, says, kept)) = (same, other, more_fits inner further kept)
refused_fits on status d (answer.Params params) other h = absurd h
refused_fits on status d (answer.Sync conflicts cursor_token retrieved saved sync_token) other h = absurd h
refused_fits on status d (answer.Account token identifier uuid) other h = absurd h

pub answers_fit : (on : Route) (status : ℕ) (text : Bytes) (a : Answer) → IsAnswer on status text a → FitsAnswer on status a
answers_fit on status text a (d, has, inl (ok, says)) = accepted_fits on status d a ok says
answers_fit on status text a (d, has, inr (other, says)) = refused_fits on status d a other says

-- The bytes of a request are read as it.
use Rattle.std.specs.Prelude.{◌≡◌, ◌++◌, ℕ, [], Option, Some, None}
use Rattle.std.specs.Io.KnownBytes.{Consumes}
use Rattle.std.proofs.Common.{refl, sym, ◌∙◌, ap, subst}
use Rattle.sn_device.specs.Asking.{IsRequestBytes, body_of, session_of, target_of}
use Rattle.sn_device.specs.States.{Bytes}
use Rattle.sn_http.specs.Heads.{Carried, unread}
use Rattle.sn_http.specs.Laws.{SameMessage}
use Rattle.sn_http.specs.Messages.{IsCheck, IsMessage, OfTold, Takes}
use Rattle.sn_http.specs.declared.message.Message.{Message}
use Rattle.sn_link.specs.Laws.{IsReadable}
use Rattle.sn_link.proofs.Facts.{ReadLaws, no_check_fails, the_message, whole}
use Rattle.sn_server.specs.Routing.{AsksFor, path_of, query_of, route_at, text_of}
use Rattle.sn_sync.specs.Laws.{token_of}
use Rattle.sn_sync.specs.Requests.{IsRequest, route_of}
use Rattle.sn_sync.specs.declared.request.Request.{Request}
use Rattle.sn_sync.specs.declared.request.Request.TheVariants as request
use Rattle.sn_sync.specs.declared.request.Route.{Route}
use Rattle.sn_sync.specs.declared.request.Route.TheVariants as route

-- ---- the parts of a message

session_is : (r : Request) → session_of r ≡ token_of r
session_is (request.Register params pw) = refl
session_is (request.Params identifier) = refl
session_is (request.SignIn identifier pw) = refl
session_is (request.ChangePw token current pw cost nonce) = refl
session_is (request.Sync token items limit sync_token cursor_token) = refl

-- the target leads to the route
leads : (on : Route) (text : Bytes) → route_at (path_of (target_of on text)) ≡ Some on
leads route.Register text = refl
leads route.Params text = refl
leads route.SignIn text = refl
leads route.ChangePw text = refl
leads route.Sync text = refl

-- a message with these parts has the text
text_is : (on : Route) (text : Bytes) (m : Message) → m.target ≡ target_of on text → m.body ≡ body_of on text → text_of on m ≡ text
text_is route.Register text m target body = body
text_is route.Params text m target body = ap query_of target
text_is route.SignIn text m target body = body
text_is route.ChangePw text m target body = body
text_is route.Sync text m target body = body

-- ---- what is read

-- the message that is read is the request that was sent
pub asks_for : ReadLaws → (host : Bytes) (r : Request) (bytes : Bytes) → IsRequestBytes host r bytes → IsReadable host r → (front rest : Bytes) (m : Message)
    → IsMessage front m → bytes ≡ front ++ rest → AsksFor m r
asks_for laws host r bytes sent readable front rest m is split =
    (on, (routed, sym same.method), subst (λ (t : Bytes). IsRequest on m.token t r) (sym text) (subst (λ (t : Bytes). IsRequest on t sent.0 r) same.token says))
  where
    on : Route
    on = route_of r

    same : SameMessage bytes front (the_message laws host r bytes sent readable) m
    same = (whole laws host r bytes sent readable front rest m is split).0

    routed : route_at (path_of m.target) ≡ Some (route_of r)
    routed = ap (λ (t : Bytes). route_at (path_of t)) (sym same.target) ∙ leads (route_of r) sent.0

    text : text_of (route_of r) m ≡ sent.0
    text = text_is (route_of r) sent.0 m (sym same.target) (sym same.body)

    says : IsRequest (route_of r) (session_of r) sent.0 r
    says = subst (λ (t : Bytes). IsRequest (route_of r) t sent.0 r) (sym (session_is r)) (laws.said r sent.0 readable.fits sent.1)

-- a carry that is empty
abbrev pub IsEmpty : Carried → Type 0
IsEmpty carry = carry ≡ record { bytes = []; place = 0 }

-- so it was taken from the front of the bytes
pub asks_taken : ReadLaws → (host : Bytes) (r : Request) (bytes : Bytes) → IsRequestBytes host r bytes → IsReadable host r → (carry : Carried) (after : Option Bytes)
    (place next : ℕ) (m : Message) → IsEmpty carry → Takes (unread carry (Some bytes)) after place next m → AsksFor m r
asks_taken laws host r bytes sent readable carry after place next m none takes =
    by after (subst (λ (k : Carried). Consumes (unread k (Some bytes)) after takes.bytes) none takes.taken)
  where
    by : (left : Option Bytes) → Consumes (Some bytes) left takes.bytes → AsksFor m r
    by None taken = absurd taken
    by (Some rest) taken = asks_for laws host r bytes sent readable takes.bytes rest m takes.is taken

-- no check of theirs fails
pub none_checked : ReadLaws → (host : Bytes) (r : Request) (bytes : Bytes) → IsRequestBytes host r bytes → IsReadable host r → (carry : Carried) (status : ℕ)
    → IsEmpty carry → OfTold (unread carry (Some bytes)) (IsCheck status) → ⊥
none_checked laws host r bytes sent readable carry status none check =
    no_check_fails laws host r bytes sent readable status (subst (λ (k : Carried). OfTold (unread k (Some bytes)) (IsCheck status)) none check)

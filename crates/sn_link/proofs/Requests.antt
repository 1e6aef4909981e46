-- A device's request is read by the server as itself, and ruled.
use Rattle.std.specs.Prelude.{◌≡◌, ◌⊎◌, ◌++◌, ℕ, List, [], ◌∷◌, length, true, Some, None}
use Rattle.std.proofs.Common.{inl, inr, refl, sym, ◌∙◌, ap, subst, arith, append-nil, length-append}
use Rattle.sn_account.specs.Rule.{Rule}
use Rattle.sn_device.specs.Asking.{IsRequestBytes, body_of, session_of, target_of}
use Rattle.sn_device.specs.States.{Bytes}
use Rattle.sn_http.specs.Laws.{NoMessageWhereCheck, OneMessage, RequestReadsBack, SameMessage}
use Rattle.sn_http.specs.Messages.{IsCheck, IsMessage}
use Rattle.sn_http.specs.declared.message.Message.{Message}
use Rattle.sn_rows.specs.Table.{Rows}
use Rattle.sn_server.specs.Replies.{IsSent, IsUnserved, Replies, RepliesByRule}
use Rattle.sn_server.specs.Routing.{AsksFor, TurnsAway, path_of, query_of, route_at, text_of}
use Rattle.sn_server.specs.Steps.{Step}
use Rattle.sn_sync.specs.Laws.{HasOneRequest, RefusesNoRequest, RequestsReadBack, token_of}
use Rattle.sn_sync.specs.Requests.{IsRequest, RefusesRequest, route_of}
use Rattle.sn_sync.specs.Routes.{method_of}
use Rattle.sn_sync.specs.declared.answer.Answer.{Answer}
use Rattle.sn_sync.specs.declared.request.Request.{Request}
use Rattle.sn_sync.specs.declared.request.Request.TheVariants as request
use Rattle.sn_sync.specs.declared.request.Route.{Route}
use Rattle.sn_sync.specs.declared.request.Route.TheVariants as route
use Rattle.sn_link.specs.Laws.{IsReadable}
use Rattle.sn_link.proofs.Delivering.{message_some}

-- the laws of messages and requests
pub record ReadLaws : Type 0 where
  pub written : RequestReadsBack
  pub one_message : OneMessage
  pub no_check : NoMessageWhereCheck
  pub said : RequestsReadBack
  pub one_request : HasOneRequest
  pub not_refused : RefusesNoRequest

-- ---- routes

session_is : (r : Request) → session_of r ≡ token_of r
session_is (request.Register params pw) = refl
session_is (request.Params identifier) = refl
session_is (request.SignIn identifier pw) = refl
session_is (request.ChangePw token current pw cost nonce) = refl
session_is (request.Sync token items limit sync_token cursor_token) = refl

-- the target leads to the route
leads : (on : Route) (text : Bytes) → route_at (path_of (target_of on text)) ≡ Some on
leads route.Register text = refl
leads route.Params text = refl
leads route.SignIn text = refl
leads route.ChangePw text = refl
leads route.Sync text = refl

-- a message with these parts has the text
text_is : (on : Route) (text : Bytes) (m : Message) → m.target ≡ target_of on text → m.body ≡ body_of on text → text_of on m ≡ text
text_is route.Register text m target body = body
text_is route.Params text m target body = ap query_of target
text_is route.SignIn text m target body = body
text_is route.ChangePw text m target body = body
text_is route.Sync text m target body = body

same_route : (a b : Route) → Some a ≡ Some b → a ≡ b
same_route a b is = cc

no_route : (a : Route) → Some a ≡ None → ⊥
no_route a is = cc

none_left : (rest : List ℕ) → length rest ≡ 0 → rest ≡ []
none_left [] is = refl
none_left (b ∷ rest) is = absurd (omega (arith, is))

-- ---- one request

-- by the rule of this request; or memory was wanting
abbrev pub IsRuled : Rows → Request → Step → Type 0
IsRuled rows r step =
    ((given : Answer) × Rule rows r step.now step.made given × IsSent given [] step.message.closing step.reply)
    ⊎ ((step.made ≡ []) × IsUnserved step.message.closing step.reply)

module _ (laws : ReadLaws) (host : Bytes) (r : Request) (bytes : Bytes) (sent : IsRequestBytes host r bytes) (readable : IsReadable host r) where
  abbrev pub the_text : Bytes
  the_text = sent.0

  abbrev pub the_message : Message
  the_message = record {
    method = method_of (route_of r);
    target = target_of (route_of r) the_text;
    token = session_of r;
    body = body_of (route_of r) the_text;
    closing = true;
    place = 0;
  }

  pub is_message : IsMessage bytes the_message
  is_message = subst (λ (b : Bytes). IsMessage b the_message) (sym sent.2)
      (laws.written (method_of (route_of r)) (target_of (route_of r) the_text) host (session_of r) (body_of (route_of r) the_text) the_message
      (readable.writable the_text sent.1)
      (record { method_is = refl; target_is = refl; token_is = refl; body_is = refl; closes = refl }))

  pub says : IsRequest (route_of r) (session_of r) the_text r
  says = subst (λ (t : Bytes). IsRequest (route_of r) t the_text r) (sym (session_is r)) (laws.said r the_text readable.fits sent.1)

  pub some : bytes ≡ [] → ⊥
  some none = omega (arith, message_some bytes the_message is_message, ap length none)

  pub no_check_fails : (status : ℕ) → IsCheck status bytes → ⊥
  no_check_fails status check = laws.no_check bytes [] the_message status is_message (subst (IsCheck status) (sym (append-nil bytes)) check)

  -- the message at the front of its bytes is all of them
  pub whole : (front rest : Bytes) (m : Message) → IsMessage front m → bytes ≡ front ++ rest → SameMessage bytes front the_message m × (rest ≡ [])
  whole front rest m is split =
      let same = laws.one_message bytes front [] rest the_message m is_message is (append-nil bytes ∙ split) in
      (same, none_left rest (omega (arith, ap length split, length-append front rest, ap length same.bytes)))

  -- no message is behind it
  pub no_other : (rest : Bytes) (front later : Bytes) (m : Message) → rest ≡ [] → IsMessage front m → rest ≡ front ++ later → ⊥
  no_other rest front later m none is split = omega (arith, message_some front m is, ap length none, ap length split, length-append front later)

  module _ (m : Message) (same : SameMessage bytes bytes the_message m) where
    routed : route_at (path_of m.target) ≡ Some (route_of r)
    routed = ap (λ (t : Bytes). route_at (path_of t)) (sym same.target) ∙ leads (route_of r) the_text

    heard_says : IsRequest (route_of r) m.token (text_of (route_of r) m) r
    heard_says = subst (λ (t : Bytes). IsRequest (route_of r) t (text_of (route_of r) m) r) same.token
        (subst (λ (t : Bytes). IsRequest (route_of r) (session_of r) t r) (sym (text_is (route_of r) the_text m (sym same.target) (sym same.body))) says)

    same_as : (on : Route) → route_at (path_of m.target) ≡ Some on → route_of r ≡ on
    same_as on is = same_route (route_of r) on (sym routed ∙ is)

    asks_for : (other : Request) → AsksFor m other → other ≡ r
    asks_for other (on, goes, is) =
        let same_on = same_as on goes.0 in
        laws.one_request (route_of r) m.token (text_of (route_of r) m) other r
        (subst (λ (o : Route). IsRequest o m.token (text_of o m) other) (sym same_on) is) heard_says

    not_away : (given : Answer) (allow : Bytes) → TurnsAway m given allow → ⊥
    not_away given allow (inl nowhere) = no_route (route_of r) (sym routed ∙ nowhere.0)
    not_away given allow (inr (inl (on, there, differs, given_is, allow_is))) =
        differs (sym same.method ∙ ap method_of (same_as on there))
    not_away given allow (inr (inr (on, goes, e, refuses, given_is, allow_is))) =
        laws.not_refused (route_of r) m.token (text_of (route_of r) m) r e heard_says
        (subst (λ (o : Route). RefusesRequest o (text_of o m) e) (sym (same_as on goes.0)) refuses)

  -- a message that is the request is ruled as it
  pub ruled : (rows : Rows) (step : Step) → SameMessage bytes bytes the_message step.message → Replies rows step.message step.now step.made step.reply → IsRuled rows r step
  ruled rows step same (inl (other, given, asks, rule, is_sent)) =
      inl (given, subst (λ (q : Request). Rule rows q step.now step.made given) (asks_for step.message same other asks) rule, is_sent)
  ruled rows step same (inr (inl (none, given, allow, away, is_sent))) = absurd (not_away step.message same given allow away)
  ruled rows step same (inr (inr wanting)) = inr wanting

  pub by_rule : (rows : Rows) (step : Step) → SameMessage bytes bytes the_message step.message → RepliesByRule rows step.message step.now step.made step.reply
      → (given : Answer) × Rule rows r step.now step.made given
  by_rule rows step same (other, given, asks, rule, is_sent) =
      (given, subst (λ (q : Request). Rule rows q step.now step.made given) (asks_for step.message same other asks) rule)

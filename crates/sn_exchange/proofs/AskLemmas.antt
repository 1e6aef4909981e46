-- What comes of a request.
use Rattle.std.specs.Prelude.{◌≡◌, ℕ, List, Some, Result, Ok, Err, IfOk, IfErr}
use Rattle.std.proofs.Common.{◌∙◌, ap, inl, inr, refl, subst, sym}
use Rattle.sn_http.specs.Answers.{IsAnswer as IsHttpAnswer}
use Rattle.sn_net.specs.Exchanges.{Exchange}
use Rattle.sn_sync.specs.Answers.{IsAnswer, RefusesAnswer}
use Rattle.sn_sync.specs.Fits.{FitsAnswer}
use Rattle.sn_sync.specs.Refusals.{Caused}
use Rattle.sn_sync.specs.declared.answer.Answer.{Answer}
use Rattle.sn_sync.specs.declared.answer.Answer.TheVariants as answer
use Rattle.sn_sync.specs.declared.answer.More.{More}
use Rattle.sn_sync.specs.declared.error.SyncError.{SyncError}
use Rattle.sn_sync.specs.declared.error.SyncError.TheVariants as error
use Rattle.sn_sync.specs.declared.request.Request.{Request}
use Rattle.sn_sync.specs.declared.request.Route.{Route}
use Rattle.sn_exchange.specs.Asked.{HeardAs, IsAsked, IsGranted, IsHeard, IsNoAnswer, IsRefusalFor, IsUnreadBody}
use Rattle.sn_device.specs.Asking.{Fails, IsReply, Reply, lost, said, unheard, unread}
use Rattle.sn_device.specs.States.{Bytes}
use Rattle.sn_device.specs.declared.error.ClientError.{ClientError}
use Rattle.sn_device.specs.declared.error.ClientError.TheVariants as refusal
use Rattle.sn_device.specs.declared.error.Place.TheVariants as place

-- ---- the bytes that come back

-- the bytes that come back on a route come to this
abbrev pub BytesComeTo : Route → Bytes → Result Answer ClientError → Type 0
BytesComeTo on bytes result = (reply : Reply) × IsReply on (Some bytes) reply × HeardAs reply result

-- bytes that are no HTTP answer
pub without_head : (on : Route) (bytes : Bytes) → ((status : ℕ) (body : Bytes) → ¬ (IsHttpAnswer bytes status body))
    → BytesComeTo on bytes (Err (refusal.BadAnswer place.Head))
without_head on bytes none = (unread place.Head, inl (none, refl), inl refl)

-- a body that isn't read
not_read : (on : Route) (bytes : Bytes) (status : ℕ) (body : Bytes) (e : SyncError) (why : ClientError) → IsHttpAnswer bytes status body
    → Caused (RefusesAnswer on status body) e → IsRefusalFor e why → BytesComeTo on bytes (Err why)
not_read on bytes status body error.Memory why head cause is = (unheard, tt, inr is)
not_read on bytes status body error.NotJson why head cause (at, placed, is) =
    (unread at, inr (status, body, error.NotJson, head, cause, placed), inl is)
not_read on bytes status body (error.Member name) why head cause (at, placed, is) =
    (unread at, inr (status, body, error.Member name, head, cause, placed), inl is)
not_read on bytes status body (error.Limit name number) why head cause (at, placed, is) =
    (unread at, inr (status, body, error.Limit name number, head, cause, placed), inl is)

-- what a body comes to
pub body_heard : (on : Route) (bytes : Bytes) (status : ℕ) (body : Bytes) (result : Result Answer ClientError) → IsHttpAnswer bytes status body
    → IfOk result (IsAnswer on status body) → IfErr result (IsUnreadBody on status body) → BytesComeTo on bytes result
body_heard on bytes status body (Ok given) head is none = (said given, (status, body, head, is), refl)
body_heard on bytes status body (Err why) head none (e, cause, is) = not_read on bytes status body e why head cause is

-- no body comes to a fault of the link
pub no_link : (e : SyncError) (why : ClientError) (result : Result Answer ClientError) → IsRefusalFor e why → result ≡ Err why
    → result ≡ Err refusal.LinkFault → ⊥
no_link error.Memory why result is same link = cc
no_link error.NotJson why result (at, placed, is) same link = cc
no_link (error.Member name) why result (at, placed, is) same link = cc
no_link (error.Limit name number) why result (at, placed, is) same link = cc

-- ---- answers that are no refusals

-- come with the status 200
pub granted_fits : (on : Route) (status : ℕ) (given : Answer) → FitsAnswer on status given → IsGranted given → FitsAnswer on 200 given
granted_fits on status (answer.Account token identifier uuid) fits granted =
    subst (λ (s : ℕ). FitsAnswer on s (answer.Account token identifier uuid)) fits.2 fits
granted_fits on status (answer.Params params) fits granted = subst (λ (s : ℕ). FitsAnswer on s (answer.Params params)) fits.1 fits
granted_fits on status (answer.Sync conflicts cursor retrieved saved token) fits granted =
    subst (λ (s : ℕ). FitsAnswer on s (answer.Sync conflicts cursor retrieved saved token)) fits.1 fits
granted_fits on status (answer.Refused s tag further) fits granted = absurd granted

pub granted_else : (given : Answer) → ((status : ℕ) (tag : Bytes) (further : More) → given ≡ answer.Refused status tag further → ⊥) → IsGranted given
granted_else (answer.Account token identifier uuid) not = tt
granted_else (answer.Params params) not = tt
granted_else (answer.Sync conflicts cursor retrieved saved token) not = tt
granted_else (answer.Refused status tag further) not = absurd (not status tag further refl)

pub fits_as : (on : Route) (given again : Answer) → again ≡ given → FitsAnswer on 200 given → FitsAnswer on 200 again
fits_as on given again is fits = subst (λ (a : Answer). FitsAnswer on 200 a) (sym is) fits

-- ---- a request whose refusal ends the call

fails_so : (reply : Reply) (why : ClientError) → IsNoAnswer reply why → Fails reply why
fails_so lost why is = is
fails_so unheard why is = is
fails_so (unread at) why is = is
fails_so (said given) why is = absurd is

pub asked_failed : (asks : List Exchange → Type 0) (host : Bytes) (r : Request) (why : ClientError) → IsHeard asks host r (Err why)
    → IsAsked asks host r (Err why)
asked_failed asks host r why (inl none) = inl none
asked_failed asks host r why (inr (reply, once, inl unanswered)) = inr (reply, once, inl (fails_so reply why unanswered))
asked_failed asks host r why (inr (reply, once, inr memory)) = inr (reply, once, inr memory)

pub asked_granted : (asks : List Exchange → Type 0) (host : Bytes) (r : Request) (given : Answer) (result : Result Answer ClientError)
    → IsHeard asks host r (Ok given) → IfOk result (λ again. (again ≡ given) × IsGranted given) → IfErr result (Fails (said given))
    → IsAsked asks host r result
asked_granted asks host r given (Ok again) (inl (none, wrong)) ok err = absurd cc
asked_granted asks host r given (Err why) (inl (none, wrong)) ok err = absurd cc
asked_granted asks host r given (Ok again) (inr (reply, once, is)) ok err =
    inr (reply, once, is ∙ ap (λ (a : Answer). said a) (sym ok.0))
asked_granted asks host r given (Err why) (inr (reply, once, is)) ok err =
    inr (reply, once, inl (subst (λ (p : Reply). Fails p why) (sym is) err))

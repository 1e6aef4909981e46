-- How one request ends.
use Rattle.std.specs.Prelude.{◌≡◌, ◌⊎◌, ℕ, List, [], Bool, Result, Ok, Err, IfOk}
use Rattle.std.proofs.Common.{inl, inr, ⊎_elim, refl, sym, ap, subst, append-nil}
use Rattle.sn_http.specs.declared.message.Message.{Message}
use Rattle.sn_rows.specs.Table.{Rows}
use Rattle.sn_rows.specs.declared.change.Change.{Change}
use Rattle.sn_sync.specs.declared.answer.Answer.{Answer}
use Rattle.sn_sync.specs.declared.request.Request.{Request}
use Rattle.sn_account.specs.Rule.{Rule}
use Rattle.sn_server.specs.Handling.{IsServed, IsReplied}
use Rattle.sn_server.specs.Replies.{IsSent, IsUnserved, RepliesAway}
use Rattle.sn_server.specs.Routing.{AsksFor}
use Rattle.sn_server.specs.Sending.{IsTurnedAway}
use Rattle.sn_server.specs.Stores.{Kept, after}
use Rattle.sn_server.specs.Turning.{IsTurned}
use Rattle.sn_server.specs.declared.handling.Prepared.{Prepared}
use Rattle.sn_server.specs.declared.handling.Replied.{Replied}
use Rattle.sn_server.specs.declared.handling.Replied.TheVariants.{Done, Broken}
use Rattle.sn_server.specs.declared.reply.Reply.{Reply}
use Rattle.sn_server.specs.declared.routing.Turned.{Turned}
use Rattle.sn_server.specs.declared.routing.Turned.TheVariants.{Away, Memory}

pub ruled_on : (rows base : Rows) (r : Request) (now : ℕ) (made changes : List Change) (given : Answer) → rows ≡ base → made ≡ changes → Rule rows r now changes given → Rule base r now made given
ruled_on rows base r now made changes given is made_is rule =
    subst (λ (m : List Change). Rule base r now m given) (sym made_is) (subst (λ (b : Rows). Rule b r now changes given) is rule)

-- no changes leave what was there
pub after_none : (kept : Kept) → after kept [] ≡ kept
after_none kept = ap (λ (b : List (List Change)). with_batches b) (append-nil kept.batches)
  where
    with_batches : List (List Change) → Kept
    with_batches b = record { rows = kept.rows; batches = b }

pub if_written : {E : Type 0} (rows : Rows) (r : Request) (now : ℕ) (changes : List Change) (given : Answer) (closing : Bool) (result : Result Prepared E)
    → IfOk result (λ p. p.changes ≡ changes) → IfOk result (λ p. IsSent given [] closing p.reply) → Rule rows r now changes given
    → IfOk result (λ p. (g : Answer) × Rule rows r now p.changes g × IsSent g [] closing p.reply)
if_written rows r now changes given closing (Ok p) is sent rule = (given, ruled_on rows rows r now p.changes changes given refl is rule, sent)
if_written rows r now changes given closing (Err error) is sent rule = is

module _ {S D : Type 0} (is_open : S → Kept → Type 0) (may_have : D → Kept → List Change → Type 0) (kept : Kept) where
  pub served_replies : (message : Message) (request : Request) (now : ℕ) (result : Replied S D) → AsksFor message request
      → IsServed is_open may_have kept request now message.closing result → IsReplied is_open may_have kept message now result
  served_replies message request now (Done server reply) asks (made, how, stands) =
      ⊎_elim (λ ruled. (made, inl (request, ruled.0, asks, ruled.1, ruled.2), stands)) (λ none. (made, inr (inr none), stands)) how
  served_replies message request now (Broken disk) asks (made, given, reply, rule, sent, either) = (made, reply, (request, given, asks, rule, sent), either)

abbrev pub no_changes : List Change
no_changes = []

pub turned_replies : (message : Message) (turned : Turned) (reply : Reply) → IsTurned message turned → IsTurnedAway turned message.closing reply
    → RepliesAway message no_changes reply ⊎ ((no_changes ≡ no_changes) × IsUnserved message.closing reply)
turned_replies message (Away given allow) reply away either = ⊎_elim (λ sent. inl (refl, given, allow, away, sent)) (λ none. inr (refl, none)) either
turned_replies message Memory reply away none = inr (refl, none)

-- What one exchange does.
use Rattle.std.specs.Prelude.{◌≡◌, ◌≢◌, ◌⊎◌, ℕ, List, [], ◌∷◌, Option, Some, None, Result, Ok, Err, Vec}
use Rattle.std.specs.declared.alloc.Global.{Global}
use Rattle.std.proofs.Common.{inl, inr, refl, sym, ◌∙◌, ap, subst}
use Rattle.sn_io.specs.Causes.{next_count}
use Rattle.sn_net.specs.Exchanges.{Exchange, answer_of}
use Rattle.sn_net.specs.declared.link.AskError.{AskError}
use Rattle.sn_net.specs.declared.link.AskError.TheVariants as ask
use Rattle.sn_disk.specs.MemDisk.{Grows}
use Rattle.sn_link.specs.Deliveries.{Delivers, Reaches, Standing, failed, held_disk, serves}
use Rattle.sn_link.specs.Holdings.{GoesOn, HoldsIn, stays_on}
use Rattle.sn_link.specs.declared.delivery.Held.{Held}
use Rattle.sn_link.specs.Links.{Asks, Befalls, Does, FailFor, HasReason, IsFailed, IsGiven, link_faults, link_held, link_losses, link_now, link_number}
use Rattle.sn_link.specs.Losses.{lost_at}
use Rattle.sn_link.specs.declared.link.ServingLink.{ServingLink}
use Rattle.sn_link.specs.declared.losses.Lost.{Lost}
use Rattle.sn_link.specs.declared.losses.Lost.TheVariants.{Nothing, Request, Reply}

abbrev pub Answered : Type 0
Answered = Result (Vec ℕ Global) AskError

abbrev pub exchange : List ℕ → List ℕ → Option (List ℕ) → Exchange
exchange host request answer = record { host = host; request = request; answer = answer }

-- the server that is reached serves, whether its answer is lost or not
pub reply_befalls : (now : ℕ) (was : Standing) (host request : List ℕ) (next : Standing) (result : Answered) → Reaches now was request next result
    → Befalls Reply now was (exchange host request None) next
reply_befalls now (serves kept) host request next result (given, delivers, handed) = (given, delivers, refl)
reply_befalls now (failed had made) host request next result (same, none) = (same, refl)

none_answered : (result : Answered) → result ≡ Err ask.Failed → answer_of result ≡ None
none_answered result is = ap answer_of is

-- no answer arrives
pub none_befalls : (now : ℕ) (was : Standing) (host request : List ℕ) (next : Standing) (result : Answered) → Reaches now was request next result
    → Befalls Nothing now was (exchange host request None) next
none_befalls now (serves kept) host request next result (given, delivers, handed) = (given, delivers, tt)
none_befalls now (failed had made) host request next result (same, none) = (same, refl)

-- an answer that was handed over was given
pub is_given : (now : ℕ) (was : Standing) (request : List ℕ) (next : Standing) (answer : Vec ℕ Global) → Reaches now was request next (Ok answer)
    → IsFailed next ⊎ IsGiven now was request next
is_given now (serves kept) request (serves next) answer (given, delivers, handed) =
    inr (answer.items, subst (λ (o : Option (List ℕ)). Delivers now kept request o (serves next)) handed delivers)
is_given now (serves kept) request (failed had made) answer (given, delivers, handed) = inl tt
is_given now (failed had made) request next answer (same, none) = absurd (let impossible : ⊥ = cc in impossible)

-- no answer, but for want of memory: the disk has failed
pub is_failed : (now : ℕ) (was : Standing) (request : List ℕ) (next : Standing) → Reaches now was request next (Err ask.Failed) → IsFailed next
is_failed now (serves kept) request (serves next) (given, delivers, handed) = absurd handed
is_failed now (serves kept) request (failed had made) (given, delivers, handed) = tt
is_failed now (failed had made) request next (same, none) = subst IsFailed (sym same) tt

pub failed_answered : (answered : Answered) (why : AskError) → answered ≡ Err why → why ≡ ask.Failed → answered ≡ Err ask.Failed
failed_answered answered why is why_is = is ∙ ap (λ (e : AskError). Err e) why_is

-- ---- where the server is

one_held : (held other : Held) (old : Option Held) → old ≡ Some held → old ≡ Some other → held ≡ other
one_held held other old first second = cc

pub goes_on : (old new : Option Held) (held after : Held) → old ≡ Some held → new ≡ Some after → Grows (held_disk held) (held_disk after) → GoesOn old new
goes_on old new held after was is grows other other_is =
    (after, is, subst (λ (h : Held). Grows (held_disk h) (held_disk after)) (one_held held other old was other_is) grows)

-- ---- one exchange is a list of one

-- the settings stay, and the next exchange is counted
pub record Counts (old new : ServingLink) : Type 0 where
  pub now_is : link_now new ≡ link_now old
  pub losses_are : link_losses new ≡ link_losses old
  pub number_is : link_number new ≡ next_count (link_number old)

-- why it failed: of what was lost, or of the disk
caused : (lost : Lost) (now : ℕ) (was : Standing) (request : List ℕ) (next : Standing) → HasReason lost now was request next (Err ask.Failed) → (lost ≢ Nothing) ⊎ IsFailed next
caused Nothing now was request next reason = inr reason
caused Request now was request next reason = inl (λ is. let impossible : ⊥ = cc in impossible)
caused Reply now was request next reason = inl (λ is. let impossible : ⊥ = cc in impossible)

one_fails : (old new : ServingLink) (x : Exchange) (next : Standing) → (lost_at (link_losses old) (link_number old) ≢ Nothing) ⊎ IsFailed next → FailFor old new (x ∷ []) next
one_fails old new x next (inl lost) = inr (inl (inl lost))
one_fails old new x next (inr fails) = inr (inr fails)

fails_for : (old new : ServingLink) (x : Exchange) (lost : Lost) (request : List ℕ) (result : Answered) (was next : Standing) → lost ≡ lost_at (link_losses old) (link_number old)
    → HasReason lost (link_now old) was request next result → (link_faults new ≡ link_faults old) ⊎ (result ≡ Err ask.Failed) → FailFor old new (x ∷ []) next
fails_for old new x lost request result was next is reason (inl same) = inl same
fails_for old new x lost request result was next is reason (inr failed_so) =
    one_fails old new x next (subst (λ (l : Lost). (l ≢ Nothing) ⊎ IsFailed next) is
    (caused lost (link_now old) was request next (subst (HasReason lost (link_now old) was request next) failed_so reason)))

-- its request is lost
pub asks_lost : (old new : ServingLink) (x : Exchange) (what : Lost) → Counts old new → what ≡ Request → what ≡ lost_at (link_losses old) (link_number old)
    → link_held new ≡ link_held old → x.answer ≡ None → Asks old new (x ∷ [])
asks_lost old new x what counts is what_is held none = record {
  now_is = counts.now_is;
  losses_are = counts.losses_are;
  goes_on = subst (GoesOn (link_held old)) (sym held) (stays_on (link_held old));
  served = λ was holds. (
    was,
    subst (λ (o : Option Held). HoldsIn o was) (sym held) holds,
    (was, subst (λ (l : Lost). Befalls l (link_now old) was x was) (sym is ∙ what_is) (refl, none), (counts.number_is, refl)),
    one_fails old new x was (inl (λ none_lost. let impossible : ⊥ = cc in impossible)),
  );
}

-- the server is reached, by what is answered and what the link makes of that
pub does_by : (lost : Lost) (host : List ℕ) (old new : ServingLink) (mid : Option Held) (request : List ℕ) (result answered : Answered)
    → link_now new ≡ link_now old → link_losses new ≡ link_losses old → link_number new ≡ link_number old
    → (link_faults new ≡ link_faults old) ⊎ (result ≡ Err ask.Failed) → GoesOn (link_held old) mid → link_held new ≡ mid
    → ((was : Standing) → HoldsIn (link_held old) was → (next : Standing) × HoldsIn mid next × Reaches (link_now old) was request next answered)
    → ((was next : Standing) → Reaches (link_now old) was request next answered
    → Befalls lost (link_now old) was (exchange host request (answer_of result)) next × HasReason lost (link_now old) was request next result)
    → Does lost host old new request result
does_by lost host old new mid request result answered now losses number faults goes held reaches befalls = record {
  now_is = now;
  losses_are = losses;
  number_is = number;
  faults_are = faults;
  goes_on = subst (GoesOn (link_held old)) (sym held) goes;
  served = λ was holds.
      let (next, holds_next, reached) = reaches was holds in
      let (befalls_so, reason) = befalls was next reached in
      (next, subst (λ (o : Option Held). HoldsIn o next) (sym held) holds_next, befalls_so, reason);
}

pub does_as : (lost : Lost) (host : List ℕ) (old new other : ServingLink) (request : List ℕ) (result one : Answered) → new ≡ other → result ≡ one
    → Does lost host old other request one → Does lost host old new request result
does_as lost host old new other request result one new_is result_is does =
    subst (λ (l : ServingLink). Does lost host old l request result) (sym new_is) (subst (λ (a : Answered). Does lost host old other request a) (sym result_is) does)

-- .. as one exchange, when it is counted
pub asks_does : (old new : ServingLink) (number : ℕ) (lost : Lost) (host request : List ℕ) (result : Answered) → lost ≡ lost_at (link_losses old) (link_number old)
    → number ≡ next_count (link_number old)
    → Does lost host (record { host = old.host; keeper = old.keeper; now = old.now; losses = old.losses; number = number; faults = old.faults }) new request result
    → Asks old new (exchange host request (answer_of result) ∷ [])
asks_does old new number lost host request result is number_is does = record {
  now_is = does.now_is;
  losses_are = does.losses_are;
  goes_on = does.goes_on;
  served = λ was holds.
      let (next, holds_next, befalls, reason) = does.served was holds in (
        next,
        holds_next,
        (next, subst (λ (l : Lost). Befalls l (link_now old) was (exchange host request (answer_of result)) next) is befalls, (does.number_is ∙ number_is, refl)),
        fails_for old new (exchange host request (answer_of result)) lost request result was next is reason does.faults_are,
      );
}

pub reason_does : (old new : ServingLink) (number : ℕ) (lost : Lost) (host request : List ℕ) (result : Answered) → lost ≡ lost_at (link_losses old) (link_number old)
    → Does lost host (record { host = old.host; keeper = old.keeper; now = old.now; losses = old.losses; number = number; faults = old.faults }) new request result
    → (was : Standing) → HoldsIn (link_held old) was
    → (next : Standing) × HoldsIn (link_held new) next
    × Befalls (lost_at (link_losses old) (link_number old)) (link_now old) was (exchange host request (answer_of result)) next
    × HasReason (lost_at (link_losses old) (link_number old)) (link_now old) was request next result
reason_does old new number lost host request result is does was holds =
    let (next, holds_next, befalls, reason) = does.served was holds in (
      next,
      holds_next,
      subst (λ (l : Lost). Befalls l (link_now old) was (exchange host request (answer_of result)) next) is befalls,
      subst (λ (l : Lost). HasReason l (link_now old) was request next result) is reason,
    )

-- a request that is lost reaches no server
pub lost_does : (old new : ServingLink) (what : Lost) (host request : List ℕ) → what ≡ Request → what ≡ lost_at (link_losses old) (link_number old)
    → link_held new ≡ link_held old → (result : Answered) → result ≡ Err ask.Failed → (was : Standing) → HoldsIn (link_held old) was
    → (next : Standing) × HoldsIn (link_held new) next
    × Befalls (lost_at (link_losses old) (link_number old)) (link_now old) was (exchange host request (answer_of result)) next
    × HasReason (lost_at (link_losses old) (link_number old)) (link_now old) was request next result
lost_does old new what host request is what_is held result fails was holds = (
  was,
  subst (λ (o : Option Held). HoldsIn o was) (sym held) holds,
  subst (λ (l : Lost). Befalls l (link_now old) was (exchange host request (answer_of result)) was) (sym is ∙ what_is) (refl, none_answered result fails),
  subst (λ (l : Lost). HasReason l (link_now old) was request was result) (sym is ∙ what_is) (subst (HasReason Request (link_now old) was request was) (sym fails) tt),
)

-- What a link to a server that it owns holds, and what its exchanges do to the server.
use Rattle.std.specs.Prelude.{◌≡◌, ◌≢◌, ◌⊎◌, ◌++◌, ℕ, List, [], ◌∷◌, Option, Some, None, Result, Ok, Err, Vec, ⊤}
use Rattle.std.specs.declared.alloc.Global.{Global}
use Rattle.std.proofs.Common.{refl, sym, ◌∙◌, inl, inr, subst}
use Rattle.sn_io.specs.Causes.{next_count}
use Rattle.sn_net.specs.Exchanges.{Asking, Exchange, answer_of}
use Rattle.sn_net.specs.declared.link.AskError.{AskError}
use Rattle.sn_net.specs.declared.link.AskError.TheVariants as ask
use Rattle.sn_link.specs.Deliveries.{Delivers, Standing, failed, serves}
use Rattle.sn_link.specs.Holdings.{GoesOn, HoldsIn, goes_further, stays_on}
use Rattle.sn_link.specs.Losses.{lost_at}
use Rattle.sn_link.specs.declared.delivery.Held.{Held}
use Rattle.sn_link.specs.declared.link.ServingLink.{ServingLink}
use Rattle.sn_link.specs.declared.losses.Losses.{Losses}
use Rattle.sn_link.specs.declared.losses.Lost.{Lost}
use Rattle.sn_link.specs.declared.losses.Lost.TheVariants.{Nothing, Request, Reply}

-- ---- what a link holds

-- its server, or its server's disk
abbrev pub link_held : ServingLink → Option Held
link_held link = link.keeper

-- the moment that the server's clock gives
abbrev pub link_now : ServingLink → ℕ
link_now link = link.now

-- what is to be lost
abbrev pub link_losses : ServingLink → Losses
link_losses link = link.losses

-- the number of the next exchange
abbrev pub link_number : ServingLink → ℕ
link_number link = link.number

-- how often it has failed
abbrev pub link_faults : ServingLink → ℕ
link_faults link = link.faults

-- ---- one exchange

-- the answer arrives, or where memory is wanting nothing does
abbrev pub Arrives : Option (List ℕ) → Option (List ℕ) → Type 0
Arrives given None = ⊤
Arrives given (Some answer) = given ≡ Some answer

-- What becomes of an exchange, by what is lost of it. A server whose disk has failed answers nothing.
abbrev pub Befalls : Lost → ℕ → Standing → Exchange → Standing → Type 0
Befalls Nothing now (serves kept) x next = (given : Option (List ℕ)) × Delivers now kept x.request given next × Arrives given x.answer
Befalls Nothing now (failed had made) x next = (next ≡ failed had made) × (x.answer ≡ None)
Befalls Request now was x next = (next ≡ was) × (x.answer ≡ None)
Befalls Reply now (serves kept) x next = (given : Option (List ℕ)) × Delivers now kept x.request given next × (x.answer ≡ None)
Befalls Reply now (failed had made) x next = (next ≡ failed had made) × (x.answer ≡ None)

-- an answer was given
abbrev pub IsGiven : ℕ → Standing → List ℕ → Standing → Type 0
IsGiven now (serves kept) request next = (given : List ℕ) × Delivers now kept request (Some given) next
IsGiven now (failed had made) request next = ⊥

abbrev pub IsFailed : Standing → Type 0
IsFailed (serves kept) = ⊥
IsFailed (failed had made) = ⊤

-- Why the link failed: the request was lost; or the disk has failed; or the answer was lost. Want of memory is told as such.
abbrev pub HasReason : Lost → ℕ → Standing → List ℕ → Standing → Result (Vec ℕ Global) AskError → Type 0
HasReason lost now was request next (Ok answer) = ⊤
HasReason lost now was request next (Err ask.Memory) = ⊤
HasReason Nothing now was request next (Err ask.Failed) = IsFailed next
HasReason Request now was request next (Err ask.Failed) = ⊤
HasReason Reply now was request next (Err ask.Failed) = IsFailed next ⊎ IsGiven now was request next

-- it was made, of which this is lost: settings and number stay, so does the count of faults unless the link failed, and whatever the server had, it has
-- behind it what it does to that
pub record Does (lost : Lost) (host : List ℕ) (old new : ServingLink) (request : List ℕ) (result : Result (Vec ℕ Global) AskError) : Type 0 where
  pub now_is : link_now new ≡ link_now old
  pub losses_are : link_losses new ≡ link_losses old
  pub number_is : link_number new ≡ link_number old
  pub faults_are : (link_faults new ≡ link_faults old) ⊎ (result ≡ Err ask.Failed)
  pub goes_on : GoesOn (link_held old) (link_held new)
  pub served : (was : Standing) → HoldsIn (link_held old) was → (next : Standing) × HoldsIn (link_held new) next
      × Befalls lost (link_now old) was (record { host = host; request = request; answer = answer_of result }) next
      × HasReason lost (link_now old) was request next result

-- ---- exchanges one after another

-- those from this number on
abbrev pub AreAsked : Losses → ℕ → ℕ → Standing → List Exchange → ℕ → Standing → Type 0
AreAsked losses now number was [] last next = (last ≡ number) × (next ≡ was)
AreAsked losses now number was (x ∷ xs) last next =
    (mid : Standing) × Befalls (lost_at losses number) now was x mid × AreAsked losses now (next_count number) mid xs last next

-- of one of those from this number on something is lost
abbrev pub AnyLost : Losses → ℕ → List Exchange → Type 0
AnyLost losses number [] = ⊥
AnyLost losses number (x ∷ xs) = (lost_at losses number ≢ Nothing) ⊎ AnyLost losses (next_count number) xs

-- They have not failed, as the count tells, but where something is lost of one of them, or where the disk has failed behind them.
abbrev pub FailFor : ServingLink → ServingLink → List Exchange → Standing → Type 0
FailFor old new xs next = (link_faults new ≡ link_faults old) ⊎ (AnyLost (link_losses old) (link_number old) xs ⊎ IsFailed next)

-- whatever the server had, it has behind them what they do to that, and they fail for what is lost alone, or for the disk; settings stay, and the disk goes on
pub record Asks (old new : ServingLink) (xs : List Exchange) : Type 0 where
  pub now_is : link_now new ≡ link_now old
  pub losses_are : link_losses new ≡ link_losses old
  pub goes_on : GoesOn (link_held old) (link_held new)
  pub served : (was : Standing) → HoldsIn (link_held old) was
      → (next : Standing) × HoldsIn (link_held new) next × AreAsked (link_losses old) (link_now old) (link_number old) was xs (link_number new) next
      × FailFor old new xs next

-- bytes were delivered once more, beside the exchanges
pub record AsksAgain (old new : ServingLink) (request : List ℕ) (answer : Option (List ℕ)) : Type 0 where
  pub now_is : link_now new ≡ link_now old
  pub losses_are : link_losses new ≡ link_losses old
  pub number_is : link_number new ≡ link_number old
  pub goes_on : GoesOn (link_held old) (link_held new)
  pub served : (was : Standing) → HoldsIn (link_held old) was
      → (next : Standing) × HoldsIn (link_held new) next × Befalls Nothing (link_now old) was (record { host = []; request = request; answer = answer }) next

-- ---- they follow one another

asked_more : (losses : Losses) (now number : ℕ) (was : Standing) (xs ys : List Exchange) (n : ℕ) (mid : Standing) (last : ℕ) (next : Standing)
    → AreAsked losses now number was xs n mid → AreAsked losses now n mid ys last next → AreAsked losses now number was (xs ++ ys) last next
asked_more losses now number was [] ys n mid last next x y =
    subst (λ (k : ℕ). AreAsked losses now k was ys last next) x.0 (subst (λ (s : Standing). AreAsked losses now n s ys last next) x.1 y)
asked_more losses now number was (e ∷ xs) ys n mid last next x y = (x.0, x.1, asked_more losses now (next_count number) x.0 xs ys n mid last next x.2 y)

-- a disk that has failed stays so
failed_one : (what : Lost) (now : ℕ) (was : Standing) (x : Exchange) (next : Standing) → IsFailed was → Befalls what now was x next → IsFailed next
failed_one Nothing now (serves kept) x next failed_so befalls = absurd failed_so
failed_one Nothing now (failed had made) x next failed_so befalls = subst IsFailed (sym befalls.0) tt
failed_one Request now was x next failed_so befalls = subst IsFailed (sym befalls.0) failed_so
failed_one Reply now (serves kept) x next failed_so befalls = absurd failed_so
failed_one Reply now (failed had made) x next failed_so befalls = subst IsFailed (sym befalls.0) tt

failed_on : (losses : Losses) (now number : ℕ) (was : Standing) (xs : List Exchange) (last : ℕ) (next : Standing) → IsFailed was → AreAsked losses now number was xs last next
    → IsFailed next
failed_on losses now number was [] last next failed_so are = subst IsFailed (sym are.1) failed_so
failed_on losses now number was (x ∷ xs) last next failed_so (mid, befalls, are) =
    failed_on losses now (next_count number) mid xs last next (failed_one (lost_at losses number) now was x mid failed_so befalls) are

lost_front : (losses : Losses) (number : ℕ) (xs ys : List Exchange) → AnyLost losses number xs → AnyLost losses number (xs ++ ys)
lost_front losses number [] ys none = absurd none
lost_front losses number (x ∷ xs) ys (inl here) = inl here
lost_front losses number (x ∷ xs) ys (inr later) = inr (lost_front losses (next_count number) xs ys later)

lost_behind : (losses : Losses) (now number : ℕ) (was : Standing) (xs ys : List Exchange) (last : ℕ) (next : Standing) → AreAsked losses now number was xs last next
    → AnyLost losses last ys → AnyLost losses number (xs ++ ys)
lost_behind losses now number was [] ys last next are any = subst (λ (n : ℕ). AnyLost losses n ys) are.0 any
lost_behind losses now number was (x ∷ xs) ys last next (mid, befalls, are) any = inr (lost_behind losses now (next_count number) mid xs ys last next are any)

fail_more : (a b c : ServingLink) (xs ys : List Exchange) (was mid next : Standing) → link_losses b ≡ link_losses a
    → AreAsked (link_losses a) (link_now a) (link_number a) was xs (link_number b) mid → AreAsked (link_losses b) (link_now b) (link_number b) mid ys (link_number c) next
    → FailFor a b xs mid → FailFor b c ys next → FailFor a c (xs ++ ys) next
fail_more a b c xs ys was mid next losses_are first later (inl same) (inl still) = inl (still ∙ same)
fail_more a b c xs ys was mid next losses_are first later (inl same) (inr (inl any)) =
    inr (inl (lost_behind (link_losses a) (link_now a) (link_number a) was xs ys (link_number b) mid first
    (subst (λ (l : Losses). AnyLost l (link_number b) ys) losses_are any)))
fail_more a b c xs ys was mid next losses_are first later (inl same) (inr (inr fails)) = inr (inr fails)
fail_more a b c xs ys was mid next losses_are first later (inr (inl any)) y = inr (inl (lost_front (link_losses a) (link_number a) xs ys any))
fail_more a b c xs ys was mid next losses_are first later (inr (inr fails)) y =
    inr (inr (failed_on (link_losses b) (link_now b) (link_number b) mid ys (link_number c) next fails later))

pub asking : Asking ServingLink Asks
asking = record {
  none = λ link. record { now_is = refl; losses_are = refl; goes_on = stays_on (link_held link); served = λ was holds. (was, holds, (refl, refl), inl refl) };
  more = λ a b c xs ys x y. record {
    now_is = y.now_is ∙ x.now_is;
    losses_are = y.losses_are ∙ x.losses_are;
    goes_on = goes_further (link_held a) (link_held b) (link_held c) x.goes_on y.goes_on;
    served = λ was holds.
        let (mid, holds_mid, first, first_fails) = x.served was holds in
        let (next, holds_next, later, later_fails) = y.served mid holds_mid in (
          next,
          holds_next,
          asked_more (link_losses a) (link_now a) (link_number a) was xs ys (link_number b) mid (link_number c) next first
              (subst (λ (l : Losses). AreAsked l (link_now a) (link_number b) mid ys (link_number c) next) x.losses_are
              (subst (λ (k : ℕ). AreAsked (link_losses b) k (link_number b) mid ys (link_number c) next) x.now_is later)),
          fail_more a b c xs ys was mid next x.losses_are first later first_fails later_fails,
        );
  };
}

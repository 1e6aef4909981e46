-- What a change of password that is finished leaves of the account.
use Rattle.std.proofs.Common.{◌≡◌, ℕ, ◌+◌, List, [], ◌∷◌, ◌++◌, length, Option, Some, None, refl, sym, ap, ◌∙◌, subst, ⊎_elim, arith}
use Rattle.sn_finished.proofs.ListLemmas.{one_there_last}
use Rattle.sn_finished.proofs.MarkedLemmas.{Keeps, Marked, marked_at, marked_own, marked_stays, named_so}
use Rattle.sn_finished.proofs.WalkLemmas.{walk}
use Rattle.sn_finished.specs.Finished.{CarriesLast, CarriesNone, CarriesOne, HasFinished, IsFinishedBy, IsStillFinished, KeepsSets}
use Rattle.sn_finished.specs.Laws.{FinishedCarries, RetiredUnused}
use Rattle.sn_laws.proofs.Facts.{StaysDevice, device_stays, each_weaker, end_from-append, identifiers_differ, legal_before, one_front}
use Rattle.sn_laws.specs.Each.{Each}
use Rattle.sn_laws.specs.Lookups.{Bytes, account_for, account_named, account_of, device_named, empty}
use Rattle.sn_laws.specs.Moves.{after}
use Rattle.sn_laws.specs.Reached.{CarriesLastTwo, CarriesTwo}
use Rattle.sn_laws.specs.Relation.{IsLive, IsUnder}
use Rattle.sn_laws.specs.Runs.{Legal, end}
use Rattle.sn_laws.specs.declared.ideal.Account.{Account}
use Rattle.sn_laws.specs.declared.ideal.Body.{Body}
use Rattle.sn_laws.specs.declared.ideal.Body.TheVariants.{Under, Gone}
use Rattle.sn_laws.specs.declared.ideal.Device.{Device}
use Rattle.sn_laws.specs.declared.ideal.Ideal.{Ideal}
use Rattle.sn_laws.specs.declared.moves.Move.{Move}
use Rattle.sn_laws.specs.declared.moves.Move.TheVariants.{Retire}

-- ---- bodies

under_some : (b : Body) → IsLive b → (k : ℕ) × IsUnder k b
under_some (Under text set) h = (set, refl)
under_some Gone h = absurd h

under_live : (k : ℕ) (b : Body) → IsUnder k b → IsLive b
under_live k (Under text set) h = tt
under_live k Gone h = absurd h

under_same : (n k : ℕ) (b : Body) → IsUnder n b → IsUnder k b → n ≡ k
under_same n k (Under text set) h e = sym h ∙ e
under_same n k Gone h e = absurd h

-- ---- what last versions carry

-- one of the last two, and not the first of them
last_of_two : (a : Account) (number : ℕ) → CarriesLastTwo a → CarriesNone number a → number + 1 ≡ length a.sets → CarriesLast a
last_of_two a number two none is uuid v last live =
    let some = under_some v.body live in
    ⊎_elim (λ e. subst (λ (n : ℕ). IsUnder n v.body) e some.1)
    (λ e. let same : some.0 ≡ number = omega (arith, e, is) in
    absurd (none uuid v last (subst (λ (n : ℕ). IsUnder n v.body) same some.1))) (two uuid v some.0 last some.1)

pub finished_carries : CarriesTwo → RetiredUnused → (ms : List Move) → Legal ms
    → Each (λ (a : Account). HasFinished ms a → CarriesLast a) (end ms).accounts
finished_carries two unused ms legal =
    each_weaker CarriesLastTwo (λ (a : Account). HasFinished ms a → CarriesLast a)
    (λ a h f. last_of_two a f.1.number h (unused ms f.0 f.1.number a legal f.1.retired f.1.has).1 f.1.before_last) (end ms).accounts (two ms legal)

one_of_last : (a : Account) → CarriesLast a → CarriesOne a
one_of_last a h uuid other v w n m last last_other under under_other =
    under_same n (length a.sets) v.body under (h uuid v last (under_live n v.body under))
    ∙ sym (under_same m (length a.sets) w.body under_other (h other w last_other (under_live m w.body under_other)))

pub finished_carries_one : FinishedCarries → (ms : List Move) → Legal ms
    → Each (λ (a : Account). HasFinished ms a → CarriesOne a) (end ms).accounts
finished_carries_one carries ms legal =
    each_weaker (λ (a : Account). HasFinished ms a → CarriesLast a) (λ (a : Account). HasFinished ms a → CarriesOne a)
    (λ a h f. one_of_last a (h f)) (end ms).accounts (carries ms legal)

-- ---- it stays

-- as many sets
abbrev AsMany : ℕ → Account → Type 0
AsMany n a = length a.sets ≡ n

many_keeps : (n : ℕ) (identifier : Bytes) → Keeps (AsMany n) identifier (KeepsSets identifier)
many_keeps n identifier = record { gain = λ x w under h. h; change = λ number set q x h. absurd (q refl) }

pub stays_finished : (ms later : List Move) (a : Account) → Legal (ms ++ later) → Each (KeepsSets a.identifier) later → HasFinished ms a
    → IsStillFinished (ms ++ later) a.identifier
stays_finished ms later a legal each f =
    let device : Bytes = f.0 in
    let n : ℕ = length a.sets in
    let name : Bytes = a.identifier in
    let legal_first : Legal ms = legal_before empty ms later legal in
    let first : Marked (AsMany n) device name (end ms) =
    marked_at (AsMany n) device (end ms) a (identifiers_differ ms legal_first) f.1.has refl in
    let last : Marked (AsMany n) device name (end (ms ++ later)) =
    walk (KeepsSets name) (Marked (AsMany n) device name) (marked_stays (AsMany n) device name (KeepsSets name) (many_keeps n name)) ms later each legal
    first in
    let many : AsMany n last.account = marked_own (AsMany n) device name (end (ms ++ later)) last in
    record {
      account = last.account;
      named = subst (λ (i : Bytes). account_named (end (ms ++ later)) i ≡ Some last.account) last.same
          (named_so (end (ms ++ later)) device last.account last.has);
      finished = (
        device,
        record {
          number = f.1.number;
          retired = one_front (λ (m : Move). m ≡ Retire device f.1.number) ms later f.1.retired;
          has = last.has;
          before_last = f.1.before_last ∙ sym many;
        },
      );
    }

-- ---- it begins

-- a device that retires a set keeps its account
retiring_keeps : (s : Ideal) (device : Bytes) (number : ℕ) (a : Account) → account_of s device ≡ Some a
    → account_of (after s (Retire device number)) device ≡ Some a
retiring_keeps s device number a h = at (device_named s device) refl h
  where
    at : (found : Option Device) → device_named s device ≡ found → account_for s.accounts found ≡ Some a
        → account_of (after s (Retire device number)) device ≡ Some a
    at None e k = absurd (cc)
    at (Some d) e k =
        let there : StaysDevice d (device_named (after s (Retire device number)) device) = device_stays s (Retire device number) device d e in
        ap (account_for s.accounts) there.found_is ∙ ap (account_named s) there.account ∙ k

pub retiring_finishes : (ms : List Move) (device : Bytes) (number : ℕ) (a : Account) → account_of (end ms) device ≡ Some a
    → number + 1 ≡ length a.sets → IsFinishedBy (ms ++ Retire device number ∷ []) a device
retiring_finishes ms device number a has before_last =
    let m : Move = Retire device number in
    record {
      number = number;
      retired = one_there_last ms m;
      has = subst (λ (s : Ideal). account_of s device ≡ Some a) (sym (end_from-append empty ms (m ∷ []))) (retiring_keeps (end ms) device number a has);
      before_last = before_last;
    }

-- Lists of moves: what stands before others, and the place that is refused.
use Rattle.std.proofs.Common.{◌≡◌, ◌<◌, ℕ, zero, suc, ◌+◌, List, [], ◌∷◌, ◌++◌, length, take, Some, None, Bool, true, false, refl, sym, ap, ◌∙◌, subst, arith}
use Rattle.std.specs.Prelude.{if◌then◌else◌, IsTrue, ◌↔◌}
use Rattle.sn_laws.specs.declared.ideal.Ideal.{Ideal}
use Rattle.sn_laws.specs.declared.moves.Move.{Move}
use Rattle.sn_laws.specs.Each.{Each}
use Rattle.sn_laws.specs.Laws.{IsFirstIllegal}
use Rattle.sn_laws.specs.Lookups.{empty}
use Rattle.sn_laws.specs.Moves.{allows, after}
use Rattle.sn_laws.specs.Runs.{end_from, LegalFrom, Legal, first_illegal, first_illegal_from}

pub end_from-append : (s : Ideal) (xs ys : List Move) → end_from s (xs ++ ys) ≡ end_from (end_from s xs) ys
end_from-append s [] ys = refl
end_from-append s (x ∷ xs) ys = end_from-append (after s x) xs ys

pub legal_before : (s : Ideal) (xs ys : List Move) → LegalFrom s (xs ++ ys) → LegalFrom s xs
legal_before s [] ys h = tt
legal_before s (x ∷ xs) ys h = (h.0, legal_before (after s x) xs ys h.1)

pub legal_after : (s : Ideal) (xs ys : List Move) → LegalFrom s (xs ++ ys) → LegalFrom (end_from s xs) ys
legal_after s [] ys h = h
legal_after s (x ∷ xs) ys h = legal_after (after s x) xs ys h.1

-- what each allowed move keeps holds after each legal list
pub reached : (P : Ideal → Type 0) → ((s : Ideal) (m : Move) → IsTrue (allows s m) → P s → P (after s m))
    → (s : Ideal) (ms : List Move) → LegalFrom s ms → P s → P (end_from s ms)
reached P keeps s [] legal h = h
reached P keeps s (m ∷ ms) legal h = reached P keeps (after s m) ms legal.1 (keeps s m legal.0 h)

-- the same, where each move of the list is one of some that keep it
pub reached_by : (Q : Move → Type 0) (P : Ideal → Type 0) → ((s : Ideal) (m : Move) → Q m → IsTrue (allows s m) → P s → P (after s m))
    → (s : Ideal) (ms : List Move) → Each Q ms → LegalFrom s ms → P s → P (end_from s ms)
reached_by Q P keeps s [] each legal h = h
reached_by Q P keeps s (m ∷ ms) each legal h = reached_by Q P keeps (after s m) ms each.1 legal.1 (keeps s m each.0 legal.0 h)

pub none_then_legal : (n : ℕ) (s : Ideal) (ms : List Move) → first_illegal_from n s ms ≡ None → LegalFrom s ms
none_then_legal n s [] h = tt
none_then_legal n s (m ∷ ms) h = at (λ k. none_then_legal (n + 1) (after s m) ms k) (allows s m) h
  where
    at : (first_illegal_from (n + 1) (after s m) ms ≡ None → LegalFrom (after s m) ms) → (b : Bool) → (if b then first_illegal_from (n + 1) (after s m) ms else Some n) ≡ None → IsTrue b × LegalFrom (after s m) ms
    at rest true k = (refl, rest k)
    at rest false k = absurd (cc)

pub legal_then_none : (n : ℕ) (s : Ideal) (ms : List Move) → LegalFrom s ms → first_illegal_from n s ms ≡ None
legal_then_none n s [] h = refl
legal_then_none n s (m ∷ ms) h = at (allows s m) h.0 (legal_then_none (n + 1) (after s m) ms h.1)
  where
    at : (b : Bool) → IsTrue b → first_illegal_from (n + 1) (after s m) ms ≡ None → (if b then first_illegal_from (n + 1) (after s m) ms else Some n) ≡ None
    at true e k = k
    at false e k = absurd (cc)

pub record FirstFrom (s : Ideal) (ms : List Move) (place : ℕ) : Type 0 where
  pub within : place < length ms
  pub before : LegalFrom s (take place ms)
  pub beyond : ¬ (LegalFrom s (take (suc place) ms))

some_then_first : (n k : ℕ) (s : Ideal) (ms : List Move) → first_illegal_from n s ms ≡ Some k → (place : ℕ) × (k ≡ n + place) × FirstFrom s ms place
some_then_first n k s [] h = absurd (cc)
some_then_first n k s (m ∷ ms) h = at (λ e. some_then_first (n + 1) k (after s m) ms e) (allows s m) refl h
  where
    at : (first_illegal_from (n + 1) (after s m) ms ≡ Some k → (place : ℕ) × (k ≡ n + 1 + place) × FirstFrom (after s m) ms place)
        → (b : Bool) → allows s m ≡ b → (if b then first_illegal_from (n + 1) (after s m) ms else Some n) ≡ Some k
        → (place : ℕ) × (k ≡ n + place) × FirstFrom s (m ∷ ms) place
    at rest true e h =
        let more = rest h in (
          suc more.0,
          omega (arith, more.1),
          record { within = omega (arith, more.2.within); before = (e, more.2.before); beyond = λ legal. more.2.beyond legal.1 },
        )
    at rest false e h = (
      zero,
      let same : n ≡ k = cc in omega (arith, same),
      record { within = omega arith; before = tt; beyond = λ legal. let no : false ≡ true = sym e ∙ legal.0 in absurd (cc) },
    )

first_then_some : (n place : ℕ) (s : Ideal) (ms : List Move) → FirstFrom s ms place → first_illegal_from n s ms ≡ Some (n + place)
first_then_some n place s [] h = absurd (omega (arith, h.within))
first_then_some n zero s (m ∷ ms) h = at (allows s m) refl
  where
    at : (b : Bool) → allows s m ≡ b → (if b then first_illegal_from (n + 1) (after s m) ms else Some n) ≡ Some (n + zero)
    at true e = absurd (h.beyond (e, tt))
    at false e = ap Some (omega arith)
first_then_some n (suc place) s (m ∷ ms) h = at (allows s m) h.before.0 (first_then_some (n + 1) place (after s m) ms rest)
  where
    rest : FirstFrom (after s m) ms place
    rest = record { within = omega (arith, h.within); before = h.before.1; beyond = λ legal. h.beyond (h.before.0, legal) }

    at : (b : Bool) → IsTrue b → first_illegal_from (n + 1) (after s m) ms ≡ Some (n + 1 + place)
        → (if b then first_illegal_from (n + 1) (after s m) ms else Some n) ≡ Some (n + suc place)
    at true e k = k ∙ ap Some (omega arith)
    at false e k = absurd (cc)

pub refused_there : (ms : List Move) (place : ℕ) → (first_illegal ms ≡ Some place) ↔ IsFirstIllegal ms place
refused_there ms place = (there, back)
  where
    suc_is : suc place ≡ place + 1
    suc_is = omega arith

    there : first_illegal ms ≡ Some place → IsFirstIllegal ms place
    there h =
        let found = some_then_first 0 place empty ms h in
        let same : found.0 ≡ place = omega (arith, found.1) in
        let first : FirstFrom empty ms place = subst (FirstFrom empty ms) same found.2 in
        record { within = first.within; before = first.before; beyond = subst (λ n. ¬ (Legal (take n ms))) suc_is first.beyond }

    back : IsFirstIllegal ms place → first_illegal ms ≡ Some place
    back h =
        let first : FirstFrom empty ms place =
        record { within = h.within; before = h.before; beyond = subst (λ n. ¬ (Legal (take n ms))) (sym suc_is) h.beyond } in
        first_then_some 0 place empty ms first ∙ ap Some (omega arith)

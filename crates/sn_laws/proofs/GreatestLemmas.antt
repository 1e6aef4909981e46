-- The greatest of some numbers.
use Rattle.std.proofs.Common.{◌≡◌, ◌<◌, ◌≤◌, ℕ, List, [], ◌∷◌, ◌++◌, Bool, true, false, refl, sym, subst, ⊎_elim, arith}
use Rattle.std.specs.Prelude.{◌==◌, not, nat_lt, if◌then◌else◌, cond}
use Rattle.sn_laws.specs.Each.{Each, One}
use Rattle.sn_laws.specs.Lookups.{greatest}
use Rattle.sn_laws.specs.Moves.{without}
use Rattle.sn_laws.proofs.ChangedLemmas.{each_weaker}
use Rattle.sn_laws.proofs.EachLemmas.{below, each_front, same_number}

pub greatest_from : (most : ℕ) (ns : List ℕ) → most ≤ greatest most ns
greatest_from most [] = omega arith
greatest_from most (n ∷ ns) = at (greatest_from n ns) (greatest_from most ns) (nat_lt most n) refl
  where
    at : n ≤ greatest n ns → most ≤ greatest most ns → (b : Bool) → nat_lt most n ≡ b → most ≤ greatest (if b then n else most) ns
    at from_n from_most true e = omega (arith, below most n e, from_n)
    at from_n from_most false e = from_most

above_both : (most n g : ℕ) (b : Bool) → nat_lt most n ≡ b → (if b then n else most) ≤ g → n ≤ g
above_both most n g true e h = h
above_both most n g false e h = grind (arith, e, h)

pub greatest_above : (most : ℕ) (ns : List ℕ) → Each (λ n. n ≤ greatest most ns) ns
greatest_above most [] = tt
greatest_above most (n ∷ ns) =
    let first : ℕ = if nat_lt most n then n else most in
    (above_both most n (greatest first ns) (nat_lt most n) refl (greatest_from first ns), greatest_above first ns)

pub greatest_least : (most g : ℕ) (ns : List ℕ) → most ≤ g → Each (λ n. n ≤ g) ns → greatest most ns ≤ g
greatest_least most g [] h k = h
greatest_least most g (n ∷ ns) h k = greatest_least (if nat_lt most n then n else most) g ns (at (nat_lt most n)) k.1
  where
    at : (b : Bool) → (if b then n else most) ≤ g
    at true = k.0
    at false = h

-- one more doesn't lessen it
pub greatest_more : (ns : List ℕ) (n : ℕ) → greatest 0 ns ≤ greatest 0 (ns ++ n ∷ [])
greatest_more ns n =
    greatest_least 0 (greatest 0 (ns ++ n ∷ [])) ns (omega arith)
    (each_front (λ m. m ≤ greatest 0 (ns ++ n ∷ [])) ns (n ∷ []) (greatest_above 0 (ns ++ n ∷ [])))

-- nor one less, where there is a greater one

each_left : {A : Type 0} (P : A → Type 0) (q : A → Bool) (xs : List A) → Each P (without q xs) → Each (λ x. q x ≡ false → P x) xs
each_left P q [] h = tt
each_left P q (x ∷ xs) h = at (λ k. each_left P q xs k) (q x) refl h
  where
    at : (Each P (without q xs) → Each (λ y. q y ≡ false → P y) xs) → (b : Bool) → q x ≡ b
        → Each P (cond (not b) (x ∷ without q xs) (without q xs)) → Each (λ y. q y ≡ false → P y) (x ∷ xs)
    at rest true e k = (λ f. absurd (cc), rest k)
    at rest false e k = (λ _. k.0, rest k.1)

both_of : {A : Type 0} (P Q : A → Type 0) (xs : List A) → Each P xs → One Q xs → (x : A) × P x × Q x
both_of P Q [] h k = absurd k
both_of P Q (x ∷ xs) h k = ⊎_elim (λ e. (x, h.0, e)) (λ rest. both_of P Q xs h.1 rest) k

not_equal : (number m : ℕ) → number < m → (m == number) ≡ false
not_equal number m h = grind (arith, h)

pub greatest_less : (ns : List ℕ) (number : ℕ) → One (λ m. number < m) ns → greatest 0 ns ≤ greatest 0 (without (λ m. m == number) ns)
greatest_less ns number one = greatest_least 0 g ns (omega arith) (each_weaker (λ m. (m == number) ≡ false → m ≤ g) (λ m. m ≤ g) whole ns left)
  where
    g : ℕ
    g = greatest 0 (without (λ m. m == number) ns)

    left : Each (λ m. (m == number) ≡ false → m ≤ g) ns
    left = each_left (λ m. m ≤ g) (λ m. m == number) ns (greatest_above 0 (without (λ m. m == number) ns))

    within : number ≤ g
    within =
        let greater = both_of (λ m. (m == number) ≡ false → m ≤ g) (λ m. number < m) ns left one in
        omega (arith, greater.1 (not_equal number greater.0 greater.2), greater.2)

    whole : (m : ℕ) → ((m == number) ≡ false → m ≤ g) → m ≤ g
    whole m h = at (m == number) refl
      where
        at : (b : Bool) → (m == number) ≡ b → m ≤ g
        at true e = subst (λ n. n ≤ g) (sym (same_number m number e)) within
        at false e = h e

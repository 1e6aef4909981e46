-- Numbers that have values: a walk up to the first value that comes again.
use Rattle.std.proofs.Common.{◌≡◌, ◌∙◌, ℕ, ◌+◌, ◌<◌, ◌≤◌, ◌↔◌, ◌⊎◌, inl, inr, sym, subst, arith, ⊎_elim}
use Rattle.std.proofs.Math.Nat.{eq-or-lt_of_le}

module _ {V : Type 0} (N : ℕ → V → Type 0) (low : ℕ) where
  -- from the lowest number to below the next one the values differ, and these were met
  pub record AreMet (Has : V → Type 0) (next : ℕ) : Type 0 where
    pub met : (v : V) → Has v ↔ ((m : ℕ) × (low ≤ m) × (m < next) × N m v)
    pub apart : (m k : ℕ) (v : V) → low ≤ m → m < next → low ≤ k → k < next → N m v → N k v → m ≡ k

  pub none_met : (Has : V → Type 0) → ((v : V) → ¬ (Has v)) → AreMet Has low
  none_met Has none = record {
    met = λ v. (λ h. absurd (none v h), λ w. absurd (omega (arith, w.1, w.2)));
    apart = λ m k v from below _ _ _ _. absurd (omega (arith, from, below));
  }

  last_or_earlier : (next m : ℕ) → m < next + 1 → (m ≡ next) ⊎ (m < next)
  last_or_earlier next m below = eq-or-lt_of_le (omega (arith, below))

  -- a value that wasn't met has no number below
  earlier : (Has : V → Type 0) (next : ℕ) (v : V) → AreMet Has next → ¬ (Has v) → (m : ℕ) (w : V) → low ≤ m → m < next → N m w → w ≡ v → ⊥
  earlier Has next v s new m w from lt has e = new ((s.met v).1 (m, from, lt, subst (N m) e has))

  pub met_more : (Has Now : V → Type 0) (next : ℕ) (v : V) → low ≤ next → N next v → ((w : V) → N next w → w ≡ v) → AreMet Has next → ¬ (Has v)
      → ((w : V) → Now w ↔ (Has w ⊎ (w ≡ v))) → AreMet Now (next + 1)
  met_more Has Now next v from own one s new added = record {
    met = λ w. (
      λ now. ⊎_elim
          (λ (h : Has w). (let at = (s.met w).0 h in (at.0, at.1, omega (arith, at.2), at.3)))
          (λ (e : w ≡ v). (next, from, omega arith, subst (N next) (sym e) own))
          ((added w).0 now),
      λ at. (added w).1 (⊎_elim
          (λ (e : at.0 ≡ next). inr (one w (subst (λ (k : ℕ). N k w) e at.3)))
          (λ (lt : at.0 < next). inl ((s.met w).1 (at.0, at.1, lt, at.3)))
          (last_or_earlier next at.0 at.2)),
    );
    apart = λ m k w low_m below_m low_k below_k has_m has_k. ⊎_elim
        (λ (e : m ≡ next). ⊎_elim
        (λ (f : k ≡ next). e ∙ sym f)
        (λ (lt : k < next). absurd (earlier Has next v s new k w low_k lt has_k (one w (subst (λ (j : ℕ). N j w) e has_m))))
        (last_or_earlier next k below_k))
        (λ (lt : m < next). ⊎_elim
        (λ (f : k ≡ next). absurd (earlier Has next v s new m w low_m lt has_m (one w (subst (λ (j : ℕ). N j w) f has_k))))
        (λ (less : k < next). s.apart m k w low_m lt low_k less has_m has_k)
        (last_or_earlier next k below_k))
        (last_or_earlier next m below_m);
  }

  -- a number without a value
  pub met_skip : (Has : V → Type 0) (next : ℕ) → ((w : V) → ¬ (N next w)) → AreMet Has next → AreMet Has (next + 1)
  met_skip Has next none s = record {
    met = λ w. (
      λ h. (let at = (s.met w).0 h in (at.0, at.1, omega (arith, at.2), at.3)),
      λ at. ⊎_elim
          (λ (e : at.0 ≡ next). absurd (none w (subst (λ (k : ℕ). N k w) e at.3)))
          (λ (lt : at.0 < next). (s.met w).1 (at.0, at.1, lt, at.3))
          (last_or_earlier next at.0 at.2),
    );
    apart = λ m k w low_m below_m low_k below_k has_m has_k. ⊎_elim
        (λ (e : m ≡ next). absurd (none w (subst (λ (j : ℕ). N j w) e has_m)))
        (λ (lt : m < next). ⊎_elim
        (λ (f : k ≡ next). absurd (none w (subst (λ (j : ℕ). N j w) f has_k)))
        (λ (less : k < next). s.apart m k w low_m lt low_k less has_m has_k)
        (last_or_earlier next k below_k))
        (last_or_earlier next m below_m);
  }

  -- a value that comes again, where they are to differ up to some number
  pub met_again : (Has : V → Type 0) (next count : ℕ) (v : V) → AreMet Has next → Has v → N next v → low ≤ next → next ≤ count
      → ¬ ((m k : ℕ) (w : V) → low ≤ m → m ≤ count → low ≤ k → k ≤ count → N m w → N k w → m ≡ k)
  met_again Has next count v s has own from upto differ =
      let at = (s.met v).0 has in
      let same : at.0 ≡ next = differ at.0 next v at.1 (omega (arith, at.2)) from upto at.3 own in
      omega (arith, same, at.2)

-- What holds of each number from 1 up to one.
use Rattle.std.proofs.Common.{◌≡◌, ℕ, ◌+◌, ◌<◌, ◌≤◌, ◌↔◌, true, false, IsTrue, refl, sym, subst, arith, ⊎_elim}
use Rattle.std.proofs.Math.Nat.{eq-or-lt_of_le}

module _ (P : ℕ → Type 0) where
  abbrev pub Below : ℕ → Type 0
  Below next = (n : ℕ) → 1 ≤ n → n < next → P n

  abbrev pub Upto : ℕ → Type 0
  Upto count = (n : ℕ) → 1 ≤ n → n ≤ count → P n

  pub below_none : Below 1
  below_none n from below = absurd (omega (arith, from, below))

  pub below_more : (next : ℕ) → Below next → P next → Below (next + 1)
  below_more next earlier here n from below = ⊎_elim
      (λ (e : n ≡ next). subst P (sym e) here)
      (λ (lt : n < next). earlier n from lt)
      (eq-or-lt_of_le (omega (arith, below)))

  pub upto_all : (count next : ℕ) → count < next → Below next → IsTrue true ↔ Upto count
  upto_all count next past all = (λ _ n from upto. all n from (omega (arith, upto, past)), λ _. refl)

  pub upto_not : (count next : ℕ) → 1 ≤ next → next ≤ count → ¬ (P next) → IsTrue false ↔ Upto count
  upto_not count next from upto not = (λ holds. cc, λ all. absurd (not (all next from upto)))

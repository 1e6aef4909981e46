-- A set of values as the keys of a map, and one more.
use Rattle.std.proofs.Common.{◌≡◌, ◌∙◌, ℕ, List, Bool, true, false, cond, eqb, Option, Some, None, IsTrue, ◌↔◌, ◌⊎◌, inl, inr, refl, sym, ap, ⊎_elim}
use Rattle.std.specs.Prelude.{IsSome, is_none, is_some}
use Rattle.std.specs.Str.{bytes_eq}
use Rattle.std.proofs.lemmas.Bool.{eqb-true, eq-eqb}
use Rattle.std.proofs.lemmas.Slice.Eq.{bytes_eq-Decides}

-- a key was there, or is the one that was added; by whether it is that one
added : (P : Type 0) (same : Bool) (was now : Option (Unit {0})) → (same ≡ true → P) → (P → same ≡ true) → now ≡ cond same (Some tt) was
    → IsSome now ↔ (IsSome was ⊎ P)
added P true was now holds back is = (λ _. inr (holds refl), λ _. ap is_some is)
added P false was now holds back is = (
  λ some. inl (sym (ap is_some is) ∙ some),
  λ either. ap is_some is ∙ ⊎_elim (λ (h : IsSome was). h) (λ (p : P). (let wrong : false ≡ true = back p in cc)) either,
)

pub stamp_added : (stamp other : ℕ) (was now : Option (Unit {0})) → now ≡ cond (eqb stamp other) (Some tt) was → IsSome now ↔ (IsSome was ⊎ (other ≡ stamp))
stamp_added stamp other was now is =
    added (other ≡ stamp) (eqb stamp other) was now (λ e. sym (eqb-true stamp other e)) (λ e. eq-eqb stamp other (sym e)) is

pub text_added : (text other : List ℕ) (was now : Option (Unit {0})) → now ≡ cond (bytes_eq text other) (Some tt) was → IsSome now ↔ (IsSome was ⊎ (other ≡ text))
text_added text other was now is =
    added (other ≡ text) (bytes_eq text other) was now (λ e. sym ((bytes_eq-Decides text other).0 e)) (λ e. (bytes_eq-Decides text other).1 (sym e)) is

pub new_or_not : {A : Type 0} (found : Option A) (b : Bool) → b ≡ is_none found → IsTrue b ↔ ¬ (IsSome found)
new_or_not (Some a) b is = (λ holds. (let wrong : true ≡ false = sym holds ∙ is in cc), λ not. absurd (not refl))
new_or_not None b is = (λ _ some. cc, λ _. is)

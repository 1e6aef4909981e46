-- The events' lines, one more.
use Rattle.std.proofs.Common.{◌≡◌, ℕ, zero, suc, List, [], ◌∷◌, ◌++◌, length, Some, sym, subst, arith, length-append}
use Rattle.std.specs.Prelude.{slice_get}
use Rattle.sn_script.specs.declared.script.Line.{Line}
use Rattle.sn_generator.specs.Generated.{AreEvents, IsEvent}

each_more : (P : ℕ → Line → Type 0) (xs : List Line) (l : Line) → ((k : ℕ) (x : Line) → slice_get xs k ≡ Some x → P k x) → P (length xs) l
    → (k : ℕ) (x : Line) → slice_get (xs ++ l ∷ []) k ≡ Some x → P k x
each_more P [] l h last zero x e = let same : l ≡ x = cc in subst (P 0) same last
each_more P [] l h last (suc k) x e = absurd (cc)
each_more P (y ∷ ys) l h last zero x e = h zero x e
each_more P (y ∷ ys) l h last (suc k) x e = each_more (λ n. P (suc n)) ys l (λ n z. h (suc n) z) last k x e

pub events_more : (number i : ℕ) (lines : List Line) (l : Line) → AreEvents number i lines → IsEvent number (suc i) l
    → AreEvents number (suc i) (lines ++ l ∷ [])
events_more number i lines l are is = record {
  counted = (let e : length lines ≡ i = are.counted in omega (arith, e, length-append lines (l ∷ [])));
  each = each_more (λ k x. IsEvent number (suc k) x) lines l are.each (subst (λ n. IsEvent number (suc n) l) (sym are.counted) is);
}

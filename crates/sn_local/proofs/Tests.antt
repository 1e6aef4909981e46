-- What a test says of what it tests.
use Rattle.std.proofs.Common.{◌≡◌, Option, Some, None, refl, ◌↔◌, Bool, false, not, Result, Ok, Err, IfOk, IsTrue}

pub is_nothing : {T : Type 0} (found : Option T) → ((x : T) → found ≡ Some x → ⊥) → found ≡ None
is_nothing None never = refl
is_nothing (Some x) never = absurd (never x refl)

pub never : {A : Type 0} → ¬ A → IsTrue false ↔ A
never not = (λ holds. cc, λ a. absurd (not a))

-- a test of one thing is a test of another that holds where it does
pub tests_same : {A B E : Type 0} (tested : Result Bool E) → (A → B) → (B → A) → IfOk tested (λ b. IsTrue b ↔ A) → IfOk tested (λ b. IsTrue b ↔ B)
tests_same (Ok b) to back test = (λ holds. to (test.0 holds), λ is. test.1 (back is))
tests_same (Err e) to back test = tt

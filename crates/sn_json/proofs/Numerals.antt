-- Whole numbers among the numbers of a text.
use Rattle.std.proofs.Common.{◌≡◌, ℕ, ◌^◌, ◌<◌, ℤ, length, Bool, true, false, Float, Option, Some, None, option_and_then, refl, ap, arith, lt-ltb}
use Rattle.std.specs.Prelude.{◌&&◌, ◌==◌, if◌then◌else◌, nat_le, nat_lt, not}
use Rattle.std.specs.Float.{binary64, float_is_finite}
use Rattle.std.specs.Option.{SomeIff}
use Rattle.std.proofs.lemmas.Bool.Decides.{Decides-eqb, nat_tests}
use Rattle.fast_float.specs.Text.{Parts, IsInteger, digits_of, nearest, with_sign}
use Rattle.serde_json.specs.Data.{float, negative, unsigned}
use Rattle.serde_json.specs.Find.{as_u64}
use Rattle.serde_json.specs.Read.{is_integer, number_from}

and_true : (a b : Bool) → (a && b) ≡ true → (a ≡ true) × (b ≡ true)
and_true true true h = (refl, refl)
and_true true false h = absurd (cc)
and_true false true h = absurd (cc)
and_true false false h = absurd (cc)

below : (a b : ℕ) → nat_lt a b ≡ true → a < b
below a b h = grind (arith, nat_tests)

not_true : (b : Bool) → not b ≡ true → b ≡ false
not_true true h = absurd (cc)
not_true false h = refl

fits : (p : Parts) → (is_integer p && nat_lt (digits_of p) (2 ^ 64)) ≡ true → IsInteger p × (digits_of p < 2 ^ 64)
fits p h =
    let both = and_true (is_integer p) (nat_lt (digits_of p) (2 ^ 64)) h in
    let front = and_true _ (length p.exponent == 0) both.0 in
    let first = and_true _ _ front.0 in
    ((below _ _ first.0, not_true p.point first.1, (Decides-eqb (length p.exponent) 0).0 front.1), below _ _ both.1)

no_whole : (b c : Bool) (n : ℕ) (x : Float) → ¬ (b ≡ true) → None ≡ option_and_then as_u64 (if b then Some (unsigned n) else (if c then Some (float x) else None))
no_whole true c n x h = absurd (h refl)
no_whole false true n x h = refl
no_whole false false n x h = refl

-- what a numeral is that fits 64 bits
pub unsigned-number_from : (r : Option ℕ) (p : Parts) → SomeIff r (IsInteger p × (digits_of p < 2 ^ 64)) (digits_of p) → r ≡ option_and_then as_u64 (number_from false p)
unsigned-number_from None p h = no_whole (is_integer p && nat_lt (digits_of p) (2 ^ 64)) (float_is_finite (nearest binary64 false p)) (digits_of p) (nearest binary64 false p) (λ e. h (fits p e))
unsigned-number_from (Some n) p h = rw (lt-ltb _ _ h.0.0.0, h.0.0.1, h.0.0.2, lt-ltb _ _ h.0.1) (ap Some h.1)

no_negative : (b c : Bool) (z : ℤ) (x : Float) → None ≡ option_and_then as_u64 (if b then Some (negative z) else (if c then Some (float x) else None))
no_negative true c z x = refl
no_negative false true z x = refl
no_negative false false z x = refl

-- a number with a minus is none
pub negative-number_from : (p : Parts) → None ≡ option_and_then as_u64 (number_from true p)
negative-number_from p =
    no_negative ((is_integer p && nat_lt 0 (digits_of p)) && nat_le (digits_of p) (2 ^ 63)) (float_is_finite (nearest binary64 true p)) (with_sign true (digits_of p)) (nearest binary64 true p)

-- A number from its digits.
use Rattle.std.specs.Prelude.{◌≡◌, ℕ, ◌+◌, ◌*◌, ◌-◌, ◌<◌, Bool, List, length, take, true, false}
use Rattle.std.specs.List.{list_all}
use Rattle.std.specs.Char.{is_ascii_digit}
use Rattle.std.specs.Int.{IsInRange}
use Rattle.std.specs.Str.Parse.{digits_value}
use Rattle.std.proofs.Common.{get_or, refl, sym, ◌∙◌, arith}
use Rattle.std.proofs.lemmas.Bool.{false≢true}
use Rattle.std.proofs.lemmas.List.Folds.{list_all_at}
use Rattle.std.proofs.lemmas.Str.{digit_value_digit}
use Rattle.std.proofs.lemmas.Int.Digits.{digits_value_more}

pub passes_at : (p : ℕ → Bool) (xs : List ℕ) (k : ℕ) → list_all p xs ≡ true → k < length xs → p (get_or xs k 0) ≡ true
passes_at p xs k all lt = by_test (p (get_or xs k 0)) refl
  where
    by_test : (b : Bool) → p (get_or xs k 0) ≡ b → p (get_or xs k 0) ≡ true
    by_test true is = is
    by_test false is = absurd (false≢true (sym (list_all_at p xs k 0 lt is) ∙ all))

digit_range : (c : ℕ) → is_ascii_digit c ≡ true → IsInRange 48 57 c
digit_range c is = grind arith

pub digit_in : (ds : List ℕ) (k : ℕ) → list_all is_ascii_digit ds ≡ true → k < length ds → IsInRange 48 57 (get_or ds k 0)
digit_in ds k all lt = digit_range _ (passes_at is_ascii_digit ds k all lt)

pub digit_more : (ds : List ℕ) (k number : ℕ) → list_all is_ascii_digit ds ≡ true → k < length ds → number ≡ digits_value 10 (take k ds)
    → number * 10 + (get_or ds k 0 - 48) ≡ digits_value 10 (take (k + 1) ds)
digit_more ds k number all lt is =
    let range = digit_in ds k all lt in
    omega (arith, is, digits_value_more 10 ds k lt, digit_value_digit (get_or ds k 0) range, range.0)

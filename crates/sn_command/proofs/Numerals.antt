-- What `parse` reads of a text that begins with a digit other than 0.
use Rattle.std.proofs.Common.{rules, arith, ◌≡◌, ◌<◌, ◌^◌, ◌*◌, ◌+◌, ◌-◌, ℕ, zero, suc, List, [], ◌∷◌, length, get_or, true, Result, Ok, Err, IfSome, IsNone, sym, ◌∙◌, ap, subst}
use Rattle.std.specs.Fmt.{decimal}
use Rattle.std.specs.Result.{OkIff, result_ok}
use Rattle.std.specs.Str.{all_ascii_digits}
use Rattle.std.specs.Str.Parse.{ParsesUnsigned}
use Rattle.std.proofs.lemmas.Fmt.{decimal-digits_value, digits_decimal, digits_value-decimal, first_decimal, decimal_nonempty, decimal_digit}
use Rattle.std.proofs.lemmas.Str.Parse.{IsNumeralModel, numerals_by_fold, parse_plain}

abbrev read_on : ℕ → List ℕ → ℕ
read_on n [] = n
read_on n (c ∷ cs) = read_on (10 * n + (c - 48)) cs

own : IsNumeralModel (λ ds. all_ascii_digits ds ≡ true) (read_on 0)
own = numerals_by_fold _ (search rules) read_on (search rules)

from_digits : (bs : List ℕ) (n : ℕ) → 48 < get_or bs 0 0 → all_ascii_digits bs ≡ true → 0 < length bs → read_on 0 bs < 2 ^ 32
    → n ≡ read_on 0 bs → bs ≡ decimal n
from_digits bs n first digits some small value =
    let plain : get_or bs 0 0 ≡ 48 → length bs ≡ 1 = λ zero. absurd (omega (arith, zero, first)) in
    let wide : read_on 0 bs < 2 ^ 64 = omega (arith, small) in
    sym (decimal-digits_value own bs digits some plain wide) ∙ ap decimal (sym value)

-- what is read is spelled so
pub spelled : {E : Type 0} (bs : List ℕ) (r : Result ℕ E) → ParsesUnsigned 32 10 bs r → 48 < get_or bs 0 0
    → IfSome (result_ok r) (λ n. bs ≡ decimal n)
spelled {E} bs (Ok n) h first =
    let found : OkIff {E = E} (Ok n) ((all_ascii_digits bs ≡ true) × (0 < length bs) × (read_on 0 bs < 2 ^ 32)) (read_on 0 bs) =
    parse_plain own {E = E} 32 bs (Ok n) h (λ plus. omega (arith, plus, first)) in
    from_digits bs n first found.0.0 found.0.1 found.0.2 found.1
spelled bs (Err e) h first = tt

-- what is spelled so is read
pub read : {E : Type 0} (bs : List ℕ) (r : Result ℕ E) → ParsesUnsigned 32 10 bs r → 48 < get_or bs 0 0
    → IsNone (result_ok r) → (n : ℕ) → n < 2 ^ 32 → ¬ (bs ≡ decimal n)
read bs (Ok m) h first none n small e = cc
read {E} bs (Err e) h first none n small is =
    let wide : n < 2 ^ 64 = omega (arith, small) in
    let refused : OkIff {E = E} (Err e) ((all_ascii_digits bs ≡ true) × (0 < length bs) × (read_on 0 bs < 2 ^ 32)) (read_on 0 bs) =
    parse_plain own {E = E} 32 bs (Err e) h (λ plus. omega (arith, plus, first)) in
    refused (
      subst (λ ds. all_ascii_digits ds ≡ true) (sym is) (digits_decimal own n wide),
      subst (λ ds. 0 < length ds) (sym is) (decimal_nonempty n wide),
      subst (λ ds. read_on 0 ds < 2 ^ 32) (sym is) (subst (λ m. m < 2 ^ 32) (sym (digits_value-decimal own n wide)) small),
    )

-- the first of some digits
first_of_digits : (bs : List ℕ) → all_ascii_digits bs ≡ true → 0 < length bs → get_or bs 0 0 < 58
first_of_digits [] digits some = omega (arith, some)
first_of_digits (b ∷ bs) digits some = search rules

-- a number from 1 up begins with a digit other than 0
pub first_digit : (n : ℕ) → 0 < n → n < 2 ^ 32 → (48 < get_or (decimal n) 0 0) × (get_or (decimal n) 0 0 < 58)
first_digit n some small =
    let wide : n < 2 ^ 64 = omega (arith, small) in
    (first_decimal n some wide, first_of_digits (decimal n) (digits_decimal own n wide) (decimal_nonempty n wide))

pub positive : (bs : List ℕ) (n : ℕ) → bs ≡ decimal n → 48 < get_or bs 0 0 → 0 < n
positive bs zero e first =
    let zeros : bs ≡ 48 ∷ [] = e ∙ decimal_digit 0 (omega arith) in
    let low : 48 < 48 = subst (λ ds. 48 < get_or ds 0 0) zeros first in
    absurd (omega (arith, low))
positive bs (suc n) e first = omega arith

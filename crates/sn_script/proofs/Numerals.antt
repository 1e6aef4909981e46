-- What `parse` reads of a number.
use Rattle.std.proofs.Common.{rules, arith, ◌≡◌, ◌<◌, ◌≤◌, ◌^◌, ◌*◌, ◌+◌, ◌-◌, ℕ, zero, suc, List, [], ◌∷◌, length, get_or, true, Result, Ok, Err, IfSome, IsNone, sym, ◌∙◌, ap, subst}
use Rattle.std.specs.Fmt.{decimal}
use Rattle.std.specs.List.{list_all}
use Rattle.std.specs.Result.{OkIff, result_ok}
use Rattle.std.specs.Str.Parse.{ParsesUnsigned}
use Rattle.std.proofs.lemmas.Fmt.{decimal-digits_value, digits_decimal, digits_value-decimal, first_decimal, decimal_nonempty, decimal_digit, decimal_injective}
use Rattle.std.proofs.lemmas.Str.Parse.{IsNumeralModel, numerals_by_fold, parse_plain, digit_at}
use Rattle.sn_script.specs.Grammar.{is_digit, IsNumber}

abbrev pub read_on : ℕ → List ℕ → ℕ
read_on n [] = n
read_on n (c ∷ cs) = read_on (10 * n + (c - 48)) cs

pub own : IsNumeralModel (λ ds. list_all is_digit ds ≡ true) (read_on 0)
own = numerals_by_fold _ (search rules) read_on (search rules)

pub digit_below : (ds : List ℕ) (k : ℕ) → list_all is_digit ds ≡ true → k < length ds → (48 ≤ get_or ds k 0) × (get_or ds k 0 ≤ 57)
digit_below ds k digits within = let h = digit_at ds k (own.to ds digits) within in (omega (arith, h), omega (arith, h))

no_plus : (bs : List ℕ) → IsNumber bs → get_or bs 0 0 ≡ 43 → ⊥
no_plus bs h plus = let low = digit_below bs 0 h.digits (omega (arith, h.some)) in omega (arith, plus, low.0)

-- what is read is spelled so
pub spelled : {E : Type 0} (bs : List ℕ) (r : Result ℕ E) → ParsesUnsigned 64 10 bs r → IsNumber bs → IfSome (result_ok r) (λ n. bs ≡ decimal n)
spelled {E} bs (Ok n) h is =
    let found : OkIff {E = E} (Ok n) ((list_all is_digit bs ≡ true) × (0 < length bs) × (read_on 0 bs < 2 ^ 64)) (read_on 0 bs) =
    parse_plain own {E = E} 64 bs (Ok n) h (no_plus bs is) in
    sym (decimal-digits_value own bs found.0.0 found.0.1 is.plain found.0.2) ∙ ap decimal (sym found.1)
spelled bs (Err e) h is = tt

-- what is spelled so is read
pub read : {E : Type 0} (bs : List ℕ) (r : Result ℕ E) → ParsesUnsigned 64 10 bs r → IsNumber bs
    → IsNone (result_ok r) → (n : ℕ) → n < 2 ^ 64 → ¬ (bs ≡ decimal n)
read bs (Ok m) h is none n small e = cc
read {E} bs (Err e) h is none n small spelled =
    let refused : OkIff {E = E} (Err e) ((list_all is_digit bs ≡ true) × (0 < length bs) × (read_on 0 bs < 2 ^ 64)) (read_on 0 bs) =
    parse_plain own {E = E} 64 bs (Err e) h (no_plus bs is) in
    refused (
      subst (λ ds. list_all is_digit ds ≡ true) (sym spelled) (digits_decimal own n small),
      subst (λ ds. 0 < length ds) (sym spelled) (decimal_nonempty n small),
      subst (λ ds. read_on 0 ds < 2 ^ 64) (sym spelled) (subst (λ m. m < 2 ^ 64) (sym (digits_value-decimal own n small)) small),
    )

plain_decimal : (n : ℕ) → n < 2 ^ 64 → get_or (decimal n) 0 0 ≡ 48 → length (decimal n) ≡ 1
plain_decimal zero small zeros = ap length (decimal_digit 0 (omega arith))
plain_decimal (suc n) small zeros = let some = first_decimal (suc n) (omega arith) small in absurd (omega (arith, some, zeros))

-- what a number is written as is a number
pub decimal_is : (n : ℕ) → n < 2 ^ 64 → IsNumber (decimal n)
decimal_is n small = record {
  some = let h = decimal_nonempty n small in omega (arith, h);
  digits = digits_decimal own n small;
  plain = plain_decimal n small;
}

pub no_number : (bs : List ℕ) → (IsNumber bs → ⊥) → (n : ℕ) → n < 2 ^ 64 → ¬ (bs ≡ decimal n)
no_number bs never n small e = never (subst IsNumber (sym e) (decimal_is n small))

-- a number out of bounds is written as none within them
pub out_of_bounds : (w : List ℕ) (m : ℕ) → w ≡ decimal m → m < 2 ^ 64 → (1 ≤ m → m ≤ 1000000 → ⊥) → (n : ℕ) → 1 ≤ n → n ≤ 1000000 → ¬ (w ≡ decimal n)
out_of_bounds w m is small out n low high spelled =
    let e = decimal_injective m n small (omega (arith, high)) (sym is ∙ spelled) in
    out (omega (arith, low, e)) (omega (arith, high, e))

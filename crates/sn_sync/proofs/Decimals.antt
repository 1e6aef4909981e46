-- Decimals as digits with no zero in front.
use Rattle.std.proofs.Common.{arith, ◌≡◌, ◌∙◌, sym, ap, subst, ℕ, zero, suc, ◌^◌, ◌<◌, ◌≤◌, List, ◌++◌, length, get_or, replicate}
use Rattle.std.specs.Fmt.{decimal}
use Rattle.std.proofs.lemmas.Fmt.{decimal_digit, decimal_nonempty, first_decimal, length-decimal-le}
use Rattle.std.proofs.lemmas.List.{length-append, length-replicate}
use Rattle.std.proofs.Math.Nat.{pow-le-pow_right}
use Rattle.sn_sync.specs.Plain.{IsPlain}
use Rattle.sn_sync.specs.Stamps.{padded}
use Rattle.sn_sync.proofs.Padded.{decimal-padded, padded-decimal}

no_zeros : (j : ℕ) (digits rest : List ℕ) → digits ≡ replicate j 48 ++ rest → (get_or digits 0 0 ≡ 48 → length digits ≡ 1) → 0 < length rest → digits ≡ rest
no_zeros zero digits rest e plain some = e
no_zeros (suc j) digits rest e plain some =
    let one = plain (ap (λ ds. get_or ds 0 0) e) in
    absurd (omega (arith, ap length e, length-append (replicate (suc j) 48) rest, length-replicate {A = ℕ} (suc j) 48))

small : (k n : ℕ) → n < 10 ^ k → k ≤ 18 → n < 2 ^ 64
small k n h few = let most = pow-le-pow_right {n = 10} (omega arith) {i = k} {j = 18} few in omega (arith, most)

-- plain digits are the decimal of their number
pub plain-decimal : (digits : List ℕ) (n : ℕ) → IsPlain digits → n < 10 ^ length digits → digits ≡ padded (length digits) n → digits ≡ decimal n
plain-decimal digits n is fits e =
    let bound = small (length digits) n fits is.few in
    no_zeros _ digits (decimal n) (e ∙ padded-decimal (length digits) n (omega (arith, is.some)) fits bound) is.plain (decimal_nonempty n bound)

decimal_first : (n : ℕ) → n < 2 ^ 64 → get_or (decimal n) 0 0 ≡ 48 → length (decimal n) ≡ 1
decimal_first zero bound zeros = ap length (decimal_digit 0 (omega arith))
decimal_first (suc n) bound zeros = let some = first_decimal (suc n) (omega arith) bound in absurd (omega (arith, some, zeros))

-- and a decimal is plain
pub IsPlain-decimal : (digits : List ℕ) (n : ℕ) → n < 10 ^ 18 → digits ≡ decimal n → IsPlain digits
IsPlain-decimal digits n h e =
    let bound : n < 2 ^ 64 = omega arith in
    subst IsPlain (sym e) (record { some = decimal_nonempty n bound; few = length-decimal-le 18 n (omega arith) h bound; plain = decimal_first n bound })

pub decimal-digits : (digits : List ℕ) (n : ℕ) → n < 10 ^ 18 → digits ≡ decimal n → digits ≡ padded (length digits) n
decimal-digits digits n h e = e ∙ decimal-padded n (omega arith) ∙ ap (λ ds. padded (length ds) n) (sym e)

-- Lower-case digits decode to the bytes that they spell, and digits in lower case spell bytes.
use Rattle.std.proofs.Common.{arith, ◌≡◌, ◌≤◌, ◌<◌, ◌∙◌, ◌+◌, ◌-◌, ◌*◌, ◌/◌, ◌%◌, ◌==◌, ◌&&◌, ap, sym, refl, inl, inr, ℕ, zero, suc, Bool, true, List, [], ◌∷◌, length, leb-true, Ok}
use Rattle.std.specs.Prelude.{slice_index, if◌then◌else◌, nat_le}
use Rattle.std.specs.List.{list_all}
use Rattle.std.proofs.lemmas.Bool.{agree_below_at, and_from, and_parts, cond-true, eqb-true, or_cases}
use Rattle.hex.specs.Hex.{decode_sized, encode_lower, encode_with, lower_digits, IsBytes}
use Rattle.hex.proofs.HexLemmas.{decode_sized-encode_lower, length-encode_with}
use Rattle.sn_string.specs.Hex.{IsLowerHex, is_lower_digit}

pub decode_sized-lower : (n : ℕ) (text bytes : List ℕ) → IsLowerHex n text bytes → decode_sized text n ≡ Ok bytes
decode_sized-lower n text bytes h =
    ap (λ t. decode_sized t n) h.spelled ∙ decode_sized-encode_lower bytes n h.count h.fit

-- ---- digits in lower case

-- the value of a digit
abbrev value_of : ℕ → ℕ
value_of c = if nat_le 97 c then c - 87 else c - 48

-- a digit stands in the table at its value
abbrev is_in_table : ℕ → Bool
is_in_table c = nat_le (value_of c) 15 && slice_index lower_digits (value_of c) == c

digits_small : (c : ℕ) → is_lower_digit c ≡ true → c < 103
digits_small c h =
    elim (or_cases (nat_le 48 c && nat_le c 57) (nat_le 97 c && nat_le c 102) h) [
      | inl figure ↦
          let both = and_parts (nat_le 48 c) (nat_le c 57) figure in
          let most : c ≤ 57 = leb-true c 57 both.1 in
          omega arith
      | inr letter ↦
          let both = and_parts (nat_le 97 c) (nat_le c 102) letter in
          let most : c ≤ 102 = leb-true c 102 both.1 in
          omega arith
    ]

digits_in_table : (c : ℕ) → is_lower_digit c ≡ true → (value_of c ≤ 15) × (slice_index lower_digits (value_of c) ≡ c)
digits_in_table c h =
    let tested = agree_below_at (λ b. if is_lower_digit b then is_in_table b else true) (λ _. true) 103 c refl (digits_small c h) in
    let here : is_in_table c ≡ true = sym (cond-true (is_lower_digit c) (is_in_table c) true h) ∙ tested in
    let both = and_parts (nat_le (value_of c) 15) (slice_index lower_digits (value_of c) == c) here in
    (leb-true (value_of c) 15 both.0, eqb-true (slice_index lower_digits (value_of c)) c both.1)

-- and each place of the table has one
table_of_digits : (d : ℕ) → d < 16 → is_lower_digit (slice_index lower_digits d) ≡ true
table_of_digits d lt = agree_below_at (λ k. is_lower_digit (slice_index lower_digits k)) (λ _. true) 16 d refl lt

-- ---- which texts are spellings

spelled_digits : (bytes : List ℕ) → IsBytes bytes → list_all is_lower_digit (encode_lower bytes) ≡ true
unfolding encode_with
spelled_digits [] fit = refl
spelled_digits (b ∷ rest) fit =
    let fits : b < 256 = fit 0 in
    let high : b / 16 < 16 = omega arith in
    let low : b % 16 < 16 = omega arith in
    and_from _ _ (table_of_digits (b / 16) high) (and_from _ _ (table_of_digits (b % 16) low) (spelled_digits rest (λ k. fit (suc k))))

pub digits_if_spelled : (n : ℕ) (text bytes : List ℕ) → IsLowerHex n text bytes → (length text ≡ 2 * n) × (list_all is_lower_digit text ≡ true)
digits_if_spelled n text bytes h = (
  ap length h.spelled ∙ length-encode_with lower_digits bytes ∙ ap (λ (k : ℕ). 2 * k) h.count,
  ap (list_all is_lower_digit) h.spelled ∙ spelled_digits bytes h.fit,
)

-- a byte in front of bytes
fit_more : (b : ℕ) (rest : List ℕ) → b < 256 → IsBytes rest → IsBytes (b ∷ rest)
fit_more b rest h hs zero = h
fit_more b rest h hs (suc i) = hs i

quotient : (v w : ℕ) → w ≤ 15 → (v * 16 + w) / 16 ≡ v
quotient v w h = omega arith

remainder : (v w : ℕ) → w ≤ 15 → (v * 16 + w) % 16 ≡ w
remainder v w h = omega arith

below : (v w : ℕ) → v ≤ 15 → w ≤ 15 → v * 16 + w < 256
below v w g h = omega arith

spelled_more : (a b : ℕ) (rest : List ℕ) (x y : ℕ) (more : List ℕ) → x ≡ a → y ≡ b → rest ≡ more → a ∷ b ∷ rest ≡ x ∷ y ∷ more
spelled_more a b rest x y more p q r = cc

-- digits, two a byte, spell bytes
pub spelled_by_digits : (n : ℕ) (text : List ℕ) → length text ≡ 2 * n → list_all is_lower_digit text ≡ true → (bytes : List ℕ) × IsLowerHex n text bytes
unfolding encode_with
spelled_by_digits zero [] len all = ([], record { count = refl; fit = λ i. omega arith; spelled = refl })
spelled_by_digits zero (a ∷ rest) len all = absurd (omega arith)
spelled_by_digits (suc n) [] len all = absurd (omega arith)
spelled_by_digits (suc n) (a ∷ []) len all = absurd (omega arith)
spelled_by_digits (suc n) (a ∷ b ∷ rest) len all =
    let one = and_parts (is_lower_digit a) (list_all is_lower_digit (b ∷ rest)) all in
    let two = and_parts (is_lower_digit b) (list_all is_lower_digit rest) one.1 in
    let later = spelled_by_digits n rest (omega arith) two.1 in
    let high = digits_in_table a one.0 in
    let low = digits_in_table b two.0 in
    let v : ℕ = value_of a in
    let w : ℕ = value_of b in
    let first : slice_index lower_digits ((v * 16 + w) / 16) ≡ a = ap (slice_index lower_digits) (quotient v w low.0) ∙ high.1 in
    let second : slice_index lower_digits ((v * 16 + w) % 16) ≡ b = ap (slice_index lower_digits) (remainder v w low.0) ∙ low.1 in (
      (v * 16 + w) ∷ later.0,
      record {
        count = ap suc later.1.count;
        fit = fit_more (v * 16 + w) later.0 (below v w high.0 low.0) later.1.fit;
        spelled = spelled_more a b rest _ _ _ first second later.1.spelled;
      },
    )

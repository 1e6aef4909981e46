-- Digits with zeros in front.
use Rattle.std.proofs.Common.{arith, add-one, ◌≡◌, ◌∙◌, sym, ap, refl, subst, ℕ, zero, suc, ◌+◌, ◌-◌, ◌*◌, ◌/◌, ◌%◌, ◌^◌, ◌<◌, ◌≤◌, List, [], ◌∷◌, ◌++◌, length, get_or, replicate, take, drop, inl, inr}
use Rattle.std.specs.Fmt.{decimal}
use Rattle.std.proofs.lemmas.Bool.{cases_lt}
use Rattle.std.proofs.lemmas.Fmt.{decimal_by_steps, decimal_digit, decimal_step}
use Rattle.std.proofs.lemmas.List.{append_assoc, drop_at, get_or-append_right, get_or_append_left, length-append, length_push, replicate_more, same_from_push, take_at, take_more}
use Rattle.std.proofs.Math.Nat.{pow-le-pow_right}
use Rattle.sn_sync.specs.Stamps.{padded}

pub length-padded : (width n : ℕ) → length (padded width n) ≡ width
unfolding padded
length-padded zero n = refl
length-padded (suc width) n = let h = length-padded width (n / 10) in omega (arith, length_push (padded width (n / 10)) (48 + n % 10))

-- each of them is a digit
pub padded_digit : (width n k : ℕ) → k < width → (48 ≤ get_or (padded width n) k 0) × (get_or (padded width n) k 0 ≤ 57)
unfolding padded
padded_digit zero n k h = absurd (omega arith)
padded_digit (suc width) n k h =
    let long = length-padded width (n / 10) in
    elim (cases_lt k width) [
      | inl lt ↦ rw (get_or_append_left (padded width (n / 10)) ((48 + n % 10) ∷ []) 0 k (omega arith)) (padded_digit width (n / 10) k lt)
      | inr ge ↦ let e : k - width ≡ 0 = omega arith in
          rw (get_or-append_right (padded width (n / 10)) ((48 + n % 10) ∷ []) width k 0 long ge, e) (omega arith, omega arith)
    ]

-- one more digit at the end
pub padded_push : (width n d : ℕ) → d < 10 → padded width n ++ (48 + d) ∷ [] ≡ padded (suc width) (n * 10 + d)
unfolding padded
padded_push width n d h =
    let front : (n * 10 + d) / 10 ≡ n = omega arith in
    let last : (n * 10 + d) % 10 ≡ d = omega arith in
    rw (front, last) refl

pub padded_injective : (width m n : ℕ) → m < 10 ^ width → n < 10 ^ width → padded width m ≡ padded width n → m ≡ n
unfolding padded
padded_injective zero m n a b e = omega arith
padded_injective (suc width) m n a b e =
    let both = same_from_push (padded width (m / 10)) (padded width (n / 10)) (48 + m % 10) (48 + n % 10) e in
    let front = padded_injective width (m / 10) (n / 10) (omega arith) (omega arith) both.0 in
    omega (arith, front, both.1)

padded_zeros : (width : ℕ) → padded width 0 ≡ replicate width 48
unfolding padded
padded_zeros zero = refl
padded_zeros (suc width) = ap (λ front. front ++ 48 ∷ []) (padded_zeros width) ∙ replicate_more width 48 ∙ ap (λ n. replicate n 48) (add-one width)

width_some : (width n : ℕ) → 10 ≤ n → n < 10 ^ suc width → 0 < width
width_some zero n more fits = absurd (omega arith)
width_some (suc width) n more fits = omega arith

-- the decimal, with zeros in front
pub padded-decimal : (width n : ℕ) → 0 < width → n < 10 ^ width → n < 2 ^ 64 → padded width n ≡ replicate (width - length (decimal n)) 48 ++ decimal n
unfolding padded
padded-decimal zero n some fits small = absurd (omega arith)
padded-decimal (suc width) n some fits small = elim (cases_lt n 10) [
  | inl lt ↦
      let front : n / 10 ≡ 0 = omega arith in
      let last : n % 10 ≡ n = omega arith in
      let rest : suc width - 1 ≡ width = omega arith in
      rw (decimal_digit n lt, front, last, padded_zeros width, rest) refl
  | inr ge ↦
      let inner = padded-decimal width (n / 10) (width_some width n ge fits) (omega arith) (omega arith) in
      let shorter : suc width - length (decimal n) ≡ width - length (decimal (n / 10)) =
      omega (arith, ap length (decimal_step n ge small), length_push (decimal (n / 10)) (48 + n % 10)) in
      rw (shorter, decimal_step n ge small, inner) (append_assoc (replicate (width - length (decimal (n / 10))) 48) (decimal (n / 10)) ((48 + n % 10) ∷ []))
]

DecimalIs : ℕ → List ℕ → Type 0
DecimalIs n digits = digits ≡ padded (length digits) n

pub decimal-padded : (n : ℕ) → n < 2 ^ 64 → decimal n ≡ padded (length (decimal n)) n
unfolding padded DecimalIs
decimal-padded = decimal_by_steps DecimalIs (λ n h. let front : n / 10 ≡ 0 = omega arith in let last : n % 10 ≡ n = omega arith in rw last refl)
    (λ n ds h e. let long : length (ds ++ (48 + n % 10) ∷ []) ≡ suc (length ds) = omega (arith, length_push ds (48 + n % 10)) in rw long (ap (λ front. front ++ (48 + n % 10) ∷ []) e))

-- a number's digits are read from the left
pub padded_more : (digits : List ℕ) (i n d : ℕ) → i < length digits → get_or digits i 0 ≡ 48 + d → d < 10 → take i digits ≡ padded i n
    → take (i + 1) digits ≡ padded (i + 1) (n * 10 + d)
padded_more digits i n d h e low so_far = take_more digits i 0 h ∙ ap (λ front. front ++ get_or digits i 0 ∷ []) so_far ∙ ap (λ c. padded i n ++ c ∷ []) e ∙ padded_push i n d low ∙ ap (λ k. padded k (n * 10 + d)) (sym (add-one i))

pub small_more : (i n d : ℕ) → n < 10 ^ i → d < 10 → n * 10 + d < 10 ^ (i + 1)
small_more i n d h low = rw add-one (omega arith)

pub room : (i n : ℕ) → n < 10 ^ i → i < 18 → n * 10 + 9 < 2 ^ 64
room i n h few = let most = pow-le-pow_right {n = 10} (omega arith) {i = i} {j = 17} (omega arith) in omega (arith, most)

-- what has another sign among its digits spells no number
pub no_number : (digits : List ℕ) (i : ℕ) → i < length digits → (48 ≤ get_or digits i 0 → get_or digits i 0 ≤ 57 → ⊥) → (n : ℕ) → ¬ (digits ≡ padded (length digits) n)
no_number digits i h out n e =
    let digit = padded_digit (length digits) n i h in
    out (subst (λ ds. 48 ≤ get_or ds i 0) (sym e) digit.0) (subst (λ ds. get_or ds i 0 ≤ 57) (sym e) digit.1)

-- what stands in front of so many bytes and behind them
pub cut : (width n : ℕ) (text front rest tail : List ℕ) → front ≡ take width text → rest ≡ drop width text → text ≡ padded width n ++ tail
    → (front ≡ padded width n) × (rest ≡ tail)
cut width n text front rest tail before behind e = (
  before ∙ ap (take width) e ∙ take_at (padded width n) tail width (length-padded width n),
  behind ∙ ap (drop width) e ∙ drop_at (padded width n) tail width (length-padded width n),
)

-- behind a field stands one thing
behind_both : (width sign m n : ℕ) (text r s : List ℕ) → text ≡ padded width m ++ sign ∷ r → text ≡ padded width n ++ sign ∷ s
    → (padded width m ≡ padded width n) × (sign ∷ r ≡ sign ∷ s)
behind_both width sign m n text r s e f = cut width n text (padded width m) (sign ∷ r) (sign ∷ s)
    (sym (take_at (padded width m) (sign ∷ r) width (length-padded width m)) ∙ ap (take width) (sym e))
    (sym (drop_at (padded width m) (sign ∷ r) width (length-padded width m)) ∙ ap (drop width) (sym e)) f

pub behind : (width sign m n : ℕ) (text r s : List ℕ) → text ≡ padded width m ++ sign ∷ r → text ≡ padded width n ++ sign ∷ s → r ≡ s
behind width sign m n text r s e f = let rest = (behind_both width sign m n text r s e f).1 in cc

-- and the field is one number
pub one_field : (width sign m n : ℕ) (text r s : List ℕ) → m < 10 ^ width → n < 10 ^ width → text ≡ padded width m ++ sign ∷ r → text ≡ padded width n ++ sign ∷ s
    → (m ≡ n) × (r ≡ s)
one_field width sign m n text r s a b e f =
    (padded_injective width m n a b (behind_both width sign m n text r s e f).0, behind width sign m n text r s e f)

pub long_enough : (width n : ℕ) (text tail : List ℕ) → text ≡ padded width n ++ tail → width ≤ length text
long_enough width n text tail e = omega (arith, ap length e, length-append (padded width n) tail, length-padded width n)

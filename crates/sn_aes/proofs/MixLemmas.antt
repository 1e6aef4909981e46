-- MIXCOLUMNS takes INVMIXCOLUMNS back: the products of the two matrices, entry by entry, at each byte.
use Rattle.std.proofs.Common.{◌≡◌, ℕ, zero, suc, ◌+◌, ◌*◌, ◌/◌, ◌%◌, ◌^◌, ◌<◌, ◌==◌, Bool, true, false, [], ◌∷◌, map, bit_xor, refl, sym, ap, ap₂, ◌∙◌, lit<, arith}
use Rattle.std.specs.Prelude.{if◌then◌else◌}
use Rattle.std.specs.List.{range_with_len}
use Rattle.std.proofs.lemmas.Nat.{xor_block, xor_comm, xor_shr, xor_of_8}
use Rattle.std.proofs.lemmas.Nat.Bits.{bit_at-lt, bit_at-zero, bit_at_xor, same_from_bits}
use Rattle.sn_aes.specs.Field.{xtimes, product_with, product}
use Rattle.sn_aes.specs.Cipher.{mix_column}
use Rattle.sn_aes.proofs.TableRows.{same_values}

-- ---- exclusive or

xor_medial : (a b c d : ℕ) → bit_xor (bit_xor a b) (bit_xor c d) ≡ bit_xor (bit_xor a c) (bit_xor b d)
xor_medial a b c d =
    same_from_bits _ _ (λ i.
    rw (
      bit_at_xor (bit_xor a b) (bit_xor c d) i,
      bit_at_xor a b i,
      bit_at_xor c d i,
      bit_at_xor (bit_xor a c) (bit_xor b d) i,
      bit_at_xor a c i,
      bit_at_xor b d i,
    )
    (omega arith))

cancel_bit : (p q : ℕ) → p < 2 → ((p + q) % 2 + q) % 2 ≡ p
cancel_bit p q h = omega arith

pub xor_cancel : (a b : ℕ) → bit_xor (bit_xor a b) b ≡ a
xor_cancel a b =
    same_from_bits _ _ (λ i. rw (bit_at_xor (bit_xor a b) b i, bit_at_xor a b i) (cancel_bit _ _ (bit_at-lt a i)))

-- the sum of two sums of four
add_rows : (a b c d p q r s : ℕ)
    → bit_xor (bit_xor (bit_xor (bit_xor a b) c) d) (bit_xor (bit_xor (bit_xor p q) r) s)
    ≡ bit_xor (bit_xor (bit_xor (bit_xor a p) (bit_xor b q)) (bit_xor c r)) (bit_xor d s)
add_rows a b c d p q r s =
    xor_medial (bit_xor (bit_xor a b) c) d (bit_xor (bit_xor p q) r) s
    ∙ ap (λ (x : ℕ). bit_xor x (bit_xor d s)) (xor_medial (bit_xor a b) c (bit_xor p q) r
    ∙ ap (λ (x : ℕ). bit_xor x (bit_xor c r)) (xor_medial a b p q))

-- ---- products are linear

below_from_mod : (n : ℕ) → n % 256 ≡ n → n < 256
below_from_mod n e = omega arith

xtimes_mod : map (λ (x : ℕ). xtimes x % 256) (range_with_len 0 256) ≡ map xtimes (range_with_len 0 256)
xtimes_mod = refl

xtimes_small : (x : ℕ) → x < 256 → xtimes x < 256
xtimes_small x h = below_from_mod (xtimes x) (same_values (λ (x : ℕ). xtimes x % 256) xtimes xtimes_mod x h)

abbrev xtimes_by_sum : ℕ → ℕ
xtimes_by_sum x = bit_xor (x * 2 ^ 1 + 0) (x / 2 ^ 7 * 0x11b)

xtimes_sum : map xtimes (range_with_len 0 256) ≡ map xtimes_by_sum (range_with_len 0 256)
xtimes_sum = refl

bit_times : (p q : ℕ) → p < 2 → q < 2 → bit_xor p q * 0x11b ≡ bit_xor (p * 0x11b) (q * 0x11b)
bit_times zero zero h k = refl
bit_times zero (suc zero) h k = refl
bit_times (suc zero) zero h k = refl
bit_times (suc zero) (suc zero) h k = refl
bit_times (suc (suc p)) q h k = absurd (omega arith)
bit_times p (suc (suc q)) h k = absurd (omega arith)

sum_xor : (x y : ℕ) → x < 256 → y < 256 → xtimes_by_sum (bit_xor x y) ≡ bit_xor (xtimes_by_sum x) (xtimes_by_sum y)
sum_xor x y h k =
    let doubled : bit_xor x y * 2 ^ 1 + 0 ≡ bit_xor (x * 2 ^ 1 + 0) (y * 2 ^ 1 + 0) = sym (xor_block 1 x y 0 0 (lit< tt) (lit< tt)) in
    let top : bit_xor x y / 2 ^ 7 * 0x11b ≡ bit_xor (x / 2 ^ 7 * 0x11b) (y / 2 ^ 7 * 0x11b) =
    ap (λ (n : ℕ). n * 0x11b) (xor_shr x y 7) ∙ bit_times (x / 2 ^ 7) (y / 2 ^ 7) (omega arith) (omega arith) in
    ap₂ bit_xor doubled top ∙ xor_medial (x * 2 ^ 1 + 0) (y * 2 ^ 1 + 0) (x / 2 ^ 7 * 0x11b) (y / 2 ^ 7 * 0x11b)

xtimes_xor : (x y : ℕ) → x < 256 → y < 256 → xtimes (bit_xor x y) ≡ bit_xor (xtimes x) (xtimes y)
xtimes_xor x y h k =
    let same = same_values xtimes xtimes_by_sum xtimes_sum in
    same (bit_xor x y) (xor_of_8 x y h k) ∙ sum_xor x y h k ∙ sym (ap₂ bit_xor (same x h) (same y k))

pick_small : (t : Bool) (c : ℕ) → c < 256 → (if t then c else 0) < 256
pick_small true c h = h
pick_small false c h = lit< tt

pick_xor : (t : Bool) (c d : ℕ) → (if t then bit_xor c d else 0) ≡ bit_xor (if t then c else 0) (if t then d else 0)
pick_xor true c d = refl
pick_xor false c d = refl

product_with_small : (n b c : ℕ) → c < 256 → product_with n b c < 256
product_with_small zero b c h = lit< tt
product_with_small (suc n) b c h =
    xor_of_8 _ _ (pick_small (b % 2 == 1) c h) (product_with_small n (b / 2) (xtimes c) (xtimes_small c h))

product_with_xor : (n b c d : ℕ) → c < 256 → d < 256
    → product_with n b (bit_xor c d) ≡ bit_xor (product_with n b c) (product_with n b d)
product_with_xor zero b c d h k = refl
product_with_xor (suc n) b c d h k =
    ap₂ bit_xor (pick_xor (b % 2 == 1) c d)
    (ap (product_with n (b / 2)) (xtimes_xor c d h k)
    ∙ product_with_xor n (b / 2) (xtimes c) (xtimes d) (xtimes_small c h) (xtimes_small d k))
    ∙ xor_medial (if b % 2 == 1 then c else 0) (if b % 2 == 1 then d else 0) (product_with n (b / 2) (xtimes c)) (product_with n (b / 2) (xtimes d))

pub product_small : (b c : ℕ) → c < 256 → product b c < 256
unfolding product
product_small b c h = product_with_small 8 b c h

pub product_xor : (b c d : ℕ) → c < 256 → d < 256 → product b (bit_xor c d) ≡ bit_xor (product b c) (product b d)
unfolding product
product_xor b c d h k = product_with_xor 8 b c d h k

-- ---- rows of the inverse matrix

abbrev row : ℕ → ℕ → ℕ → ℕ → ℕ → ℕ → ℕ → ℕ → ℕ
row k l m n a b c d = bit_xor (bit_xor (bit_xor (product k a) (product l b)) (product m c)) (product n d)

pub row_small : (k l m n a b c d : ℕ) → a < 256 → b < 256 → c < 256 → d < 256 → row k l m n a b c d < 256
row_small k l m n a b c d p q r s =
    xor_of_8 _ _ (xor_of_8 _ _ (xor_of_8 _ _ (product_small k a p) (product_small l b q)) (product_small m c r)) (product_small n d s)

-- a sum of rows is the row of sums
row_xor : (k l m n a b c d e f g h : ℕ) → a < 256 → b < 256 → c < 256 → d < 256 → e < 256 → f < 256 → g < 256 → h < 256
    → bit_xor (row k l m n a b c d) (row k l m n e f g h) ≡ row k l m n (bit_xor a e) (bit_xor b f) (bit_xor c g) (bit_xor d h)
row_xor k l m n a b c d e f g h pa pb pc pd pe pf pg ph =
    add_rows (product k a) (product l b) (product m c) (product n d) (product k e) (product l f) (product m g) (product n h)
    ∙ sym (ap₂ bit_xor (ap₂ bit_xor (ap₂ bit_xor (product_xor k a e pa pe) (product_xor l b f pb pf)) (product_xor m c g pc pg)) (product_xor n d h pd ph))

-- a multiple of a row
row_times : (t k l m n a b c d : ℕ) → a < 256 → b < 256 → c < 256 → d < 256
    → product t (row k l m n a b c d)
    ≡ bit_xor (bit_xor (bit_xor (product t (product k a)) (product t (product l b))) (product t (product m c))) (product t (product n d))
row_times t k l m n a b c d p q r s =
    let ka = product_small k a p in
    let lb = product_small l b q in
    let mc = product_small m c r in
    let nd = product_small n d s in
    let two = xor_of_8 _ _ ka lb in
    let three = xor_of_8 _ _ two mc in
    product_xor t _ _ three nd
    ∙ ap (λ (x : ℕ). bit_xor x (product t (product n d))) (product_xor t _ _ two mc
    ∙ ap (λ (x : ℕ). bit_xor x (product t (product m c))) (product_xor t _ _ ka lb))

-- ---- the product of the two matrices: row r and column c, at each byte

abbrev cell00 : ℕ → ℕ
cell00 x = bit_xor (bit_xor (bit_xor (product 2 (product 14 x)) (product 3 (product 9 x))) (product 13 x)) (product 11 x)

cell00_is : map cell00 (range_with_len 0 256) ≡ map (λ (x : ℕ). x) (range_with_len 0 256)
unfolding product
cell00_is = refl

abbrev cell01 : ℕ → ℕ
cell01 x = bit_xor (bit_xor (bit_xor (product 2 (product 11 x)) (product 3 (product 14 x))) (product 9 x)) (product 13 x)

cell01_is : map cell01 (range_with_len 0 256) ≡ map (λ (x : ℕ). 0) (range_with_len 0 256)
unfolding product
cell01_is = refl

abbrev cell02 : ℕ → ℕ
cell02 x = bit_xor (bit_xor (bit_xor (product 2 (product 13 x)) (product 3 (product 11 x))) (product 14 x)) (product 9 x)

cell02_is : map cell02 (range_with_len 0 256) ≡ map (λ (x : ℕ). 0) (range_with_len 0 256)
unfolding product
cell02_is = refl

abbrev cell03 : ℕ → ℕ
cell03 x = bit_xor (bit_xor (bit_xor (product 2 (product 9 x)) (product 3 (product 13 x))) (product 11 x)) (product 14 x)

cell03_is : map cell03 (range_with_len 0 256) ≡ map (λ (x : ℕ). 0) (range_with_len 0 256)
unfolding product
cell03_is = refl

abbrev cell10 : ℕ → ℕ
cell10 x = bit_xor (bit_xor (bit_xor (product 14 x) (product 2 (product 9 x))) (product 3 (product 13 x))) (product 11 x)

cell10_is : map cell10 (range_with_len 0 256) ≡ map (λ (x : ℕ). 0) (range_with_len 0 256)
unfolding product
cell10_is = refl

abbrev cell11 : ℕ → ℕ
cell11 x = bit_xor (bit_xor (bit_xor (product 11 x) (product 2 (product 14 x))) (product 3 (product 9 x))) (product 13 x)

cell11_is : map cell11 (range_with_len 0 256) ≡ map (λ (x : ℕ). x) (range_with_len 0 256)
unfolding product
cell11_is = refl

abbrev cell12 : ℕ → ℕ
cell12 x = bit_xor (bit_xor (bit_xor (product 13 x) (product 2 (product 11 x))) (product 3 (product 14 x))) (product 9 x)

cell12_is : map cell12 (range_with_len 0 256) ≡ map (λ (x : ℕ). 0) (range_with_len 0 256)
unfolding product
cell12_is = refl

abbrev cell13 : ℕ → ℕ
cell13 x = bit_xor (bit_xor (bit_xor (product 9 x) (product 2 (product 13 x))) (product 3 (product 11 x))) (product 14 x)

cell13_is : map cell13 (range_with_len 0 256) ≡ map (λ (x : ℕ). 0) (range_with_len 0 256)
unfolding product
cell13_is = refl

abbrev cell20 : ℕ → ℕ
cell20 x = bit_xor (bit_xor (bit_xor (product 14 x) (product 9 x)) (product 2 (product 13 x))) (product 3 (product 11 x))

cell20_is : map cell20 (range_with_len 0 256) ≡ map (λ (x : ℕ). 0) (range_with_len 0 256)
unfolding product
cell20_is = refl

abbrev cell21 : ℕ → ℕ
cell21 x = bit_xor (bit_xor (bit_xor (product 11 x) (product 14 x)) (product 2 (product 9 x))) (product 3 (product 13 x))

cell21_is : map cell21 (range_with_len 0 256) ≡ map (λ (x : ℕ). 0) (range_with_len 0 256)
unfolding product
cell21_is = refl

abbrev cell22 : ℕ → ℕ
cell22 x = bit_xor (bit_xor (bit_xor (product 13 x) (product 11 x)) (product 2 (product 14 x))) (product 3 (product 9 x))

cell22_is : map cell22 (range_with_len 0 256) ≡ map (λ (x : ℕ). x) (range_with_len 0 256)
unfolding product
cell22_is = refl

abbrev cell23 : ℕ → ℕ
cell23 x = bit_xor (bit_xor (bit_xor (product 9 x) (product 13 x)) (product 2 (product 11 x))) (product 3 (product 14 x))

cell23_is : map cell23 (range_with_len 0 256) ≡ map (λ (x : ℕ). 0) (range_with_len 0 256)
unfolding product
cell23_is = refl

abbrev cell30 : ℕ → ℕ
cell30 x = bit_xor (bit_xor (bit_xor (product 3 (product 14 x)) (product 9 x)) (product 13 x)) (product 2 (product 11 x))

cell30_is : map cell30 (range_with_len 0 256) ≡ map (λ (x : ℕ). 0) (range_with_len 0 256)
unfolding product
cell30_is = refl

abbrev cell31 : ℕ → ℕ
cell31 x = bit_xor (bit_xor (bit_xor (product 3 (product 11 x)) (product 14 x)) (product 9 x)) (product 2 (product 13 x))

cell31_is : map cell31 (range_with_len 0 256) ≡ map (λ (x : ℕ). 0) (range_with_len 0 256)
unfolding product
cell31_is = refl

abbrev cell32 : ℕ → ℕ
cell32 x = bit_xor (bit_xor (bit_xor (product 3 (product 13 x)) (product 11 x)) (product 14 x)) (product 2 (product 9 x))

cell32_is : map cell32 (range_with_len 0 256) ≡ map (λ (x : ℕ). 0) (range_with_len 0 256)
unfolding product
cell32_is = refl

abbrev cell33 : ℕ → ℕ
cell33 x = bit_xor (bit_xor (bit_xor (product 3 (product 9 x)) (product 13 x)) (product 11 x)) (product 2 (product 14 x))

cell33_is : map cell33 (range_with_len 0 256) ≡ map (λ (x : ℕ). x) (range_with_len 0 256)
unfolding product
cell33_is = refl

-- the sum of four rows, by columns
pub by_columns : (a b c d e f g h i j k l m n o p : ℕ)
    → bit_xor (bit_xor (bit_xor (bit_xor (bit_xor (bit_xor a b) c) d) (bit_xor (bit_xor (bit_xor e f) g) h)) (bit_xor (bit_xor (bit_xor i j) k) l)) (bit_xor (bit_xor (bit_xor m n) o) p)
    ≡ bit_xor (bit_xor (bit_xor (bit_xor (bit_xor (bit_xor a e) i) m) (bit_xor (bit_xor (bit_xor b f) j) n)) (bit_xor (bit_xor (bit_xor c g) k) o)) (bit_xor (bit_xor (bit_xor d h) l) p)
by_columns a b c d e f g h i j k l m n o p =
    ap (λ (x : ℕ). bit_xor x (bit_xor (bit_xor (bit_xor m n) o) p))
    (ap (λ (x : ℕ). bit_xor x (bit_xor (bit_xor (bit_xor i j) k) l)) (add_rows a b c d e f g h) ∙ add_rows (bit_xor a e) (bit_xor b f) (bit_xor c g) (bit_xor d h) i j k l)
    ∙ add_rows (bit_xor (bit_xor a e) i) (bit_xor (bit_xor b f) j) (bit_xor (bit_xor c g) k) (bit_xor (bit_xor d h) l) m n o p

pub same_sum : (t u v w x y z p : ℕ) → t ≡ x → u ≡ y → v ≡ z → w ≡ p
    → bit_xor (bit_xor (bit_xor t u) v) w ≡ bit_xor (bit_xor (bit_xor x y) z) p
same_sum t u v w x y z p a b c d = cc

zero_bit : (p : ℕ) → p < 2 → (p + 0) % 2 ≡ p
zero_bit p h = omega arith

xor_zero : (x : ℕ) → bit_xor x 0 ≡ x
xor_zero x = same_from_bits _ _ (λ i. rw (bit_at_xor x 0 i, bit_at-zero i) (zero_bit _ (bit_at-lt x i)))

zero_xor : (x : ℕ) → bit_xor 0 x ≡ x
zero_xor x = xor_comm 0 x ∙ xor_zero x

zeros_0 : (x : ℕ) → bit_xor (bit_xor (bit_xor x 0) 0) 0 ≡ x
zeros_0 x = xor_zero (bit_xor (bit_xor x 0) 0) ∙ xor_zero (bit_xor x 0) ∙ xor_zero x

zeros_1 : (x : ℕ) → bit_xor (bit_xor (bit_xor 0 x) 0) 0 ≡ x
zeros_1 x = xor_zero (bit_xor (bit_xor 0 x) 0) ∙ xor_zero (bit_xor 0 x) ∙ zero_xor x

zeros_2 : (x : ℕ) → bit_xor (bit_xor (bit_xor 0 0) x) 0 ≡ x
zeros_2 x = xor_zero (bit_xor 0 x) ∙ zero_xor x

zeros_3 : (x : ℕ) → bit_xor (bit_xor (bit_xor 0 0) 0) x ≡ x
zeros_3 x = zero_xor x

pub only_0 : (x t u v w : ℕ) → t ≡ x → u ≡ 0 → v ≡ 0 → w ≡ 0 → bit_xor (bit_xor (bit_xor t u) v) w ≡ x
only_0 x t u v w p q r s = rw (p, q, r, s) (zeros_0 x)

pub only_1 : (x t u v w : ℕ) → t ≡ 0 → u ≡ x → v ≡ 0 → w ≡ 0 → bit_xor (bit_xor (bit_xor t u) v) w ≡ x
only_1 x t u v w p q r s = rw (p, q, r, s) (zeros_1 x)

pub only_2 : (x t u v w : ℕ) → t ≡ 0 → u ≡ 0 → v ≡ x → w ≡ 0 → bit_xor (bit_xor (bit_xor t u) v) w ≡ x
only_2 x t u v w p q r s = rw (p, q, r, s) (zeros_2 x)

pub only_3 : (x t u v w : ℕ) → t ≡ 0 → u ≡ 0 → v ≡ 0 → w ≡ x → bit_xor (bit_xor (bit_xor t u) v) w ≡ x
only_3 x t u v w p q r s = rw (p, q, r, s) (zeros_3 x)

entry0 : (a b c d : ℕ) → a < 256 → b < 256 → c < 256 → d < 256
    → bit_xor (bit_xor (bit_xor (product 2 (row 14 11 13 9 a b c d)) (product 3 (row 9 14 11 13 a b c d))) (row 13 9 14 11 a b c d)) (row 11 13 9 14 a b c d) ≡ a
entry0 a b c d p q r s =
    same_sum (product 2 (row 14 11 13 9 a b c d)) (product 3 (row 9 14 11 13 a b c d)) (row 13 9 14 11 a b c d) (row 11 13 9 14 a b c d) (bit_xor (bit_xor (bit_xor (product 2 (product 14 a)) (product 2 (product 11 b))) (product 2 (product 13 c))) (product 2 (product 9 d))) (bit_xor (bit_xor (bit_xor (product 3 (product 9 a)) (product 3 (product 14 b))) (product 3 (product 11 c))) (product 3 (product 13 d))) (bit_xor (bit_xor (bit_xor (product 13 a) (product 9 b)) (product 14 c)) (product 11 d)) (bit_xor (bit_xor (bit_xor (product 11 a) (product 13 b)) (product 9 c)) (product 14 d)) (row_times 2 14 11 13 9 a b c d p q r s) (row_times 3 9 14 11 13 a b c d p q r s) refl refl
    ∙ by_columns (product 2 (product 14 a)) (product 2 (product 11 b)) (product 2 (product 13 c)) (product 2 (product 9 d)) (product 3 (product 9 a)) (product 3 (product 14 b)) (product 3 (product 11 c)) (product 3 (product 13 d)) (product 13 a) (product 9 b) (product 14 c) (product 11 d) (product 11 a) (product 13 b) (product 9 c) (product 14 d)
    ∙ only_0 a (cell00 a) (cell01 b) (cell02 c) (cell03 d) (same_values cell00 (λ (x : ℕ). x) cell00_is a p)
    (same_values cell01 (λ (x : ℕ). 0) cell01_is b q)
    (same_values cell02 (λ (x : ℕ). 0) cell02_is c r)
    (same_values cell03 (λ (x : ℕ). 0) cell03_is d s)

entry1 : (a b c d : ℕ) → a < 256 → b < 256 → c < 256 → d < 256
    → bit_xor (bit_xor (bit_xor (row 14 11 13 9 a b c d) (product 2 (row 9 14 11 13 a b c d))) (product 3 (row 13 9 14 11 a b c d))) (row 11 13 9 14 a b c d) ≡ b
entry1 a b c d p q r s =
    same_sum (row 14 11 13 9 a b c d) (product 2 (row 9 14 11 13 a b c d)) (product 3 (row 13 9 14 11 a b c d)) (row 11 13 9 14 a b c d) (bit_xor (bit_xor (bit_xor (product 14 a) (product 11 b)) (product 13 c)) (product 9 d)) (bit_xor (bit_xor (bit_xor (product 2 (product 9 a)) (product 2 (product 14 b))) (product 2 (product 11 c))) (product 2 (product 13 d))) (bit_xor (bit_xor (bit_xor (product 3 (product 13 a)) (product 3 (product 9 b))) (product 3 (product 14 c))) (product 3 (product 11 d))) (bit_xor (bit_xor (bit_xor (product 11 a) (product 13 b)) (product 9 c)) (product 14 d)) refl (row_times 2 9 14 11 13 a b c d p q r s) (row_times 3 13 9 14 11 a b c d p q r s) refl
    ∙ by_columns (product 14 a) (product 11 b) (product 13 c) (product 9 d) (product 2 (product 9 a)) (product 2 (product 14 b)) (product 2 (product 11 c)) (product 2 (product 13 d)) (product 3 (product 13 a)) (product 3 (product 9 b)) (product 3 (product 14 c)) (product 3 (product 11 d)) (product 11 a) (product 13 b) (product 9 c) (product 14 d)
    ∙ only_1 b (cell10 a) (cell11 b) (cell12 c) (cell13 d) (same_values cell10 (λ (x : ℕ). 0) cell10_is a p)
    (same_values cell11 (λ (x : ℕ). x) cell11_is b q)
    (same_values cell12 (λ (x : ℕ). 0) cell12_is c r)
    (same_values cell13 (λ (x : ℕ). 0) cell13_is d s)

entry2 : (a b c d : ℕ) → a < 256 → b < 256 → c < 256 → d < 256
    → bit_xor (bit_xor (bit_xor (row 14 11 13 9 a b c d) (row 9 14 11 13 a b c d)) (product 2 (row 13 9 14 11 a b c d))) (product 3 (row 11 13 9 14 a b c d)) ≡ c
entry2 a b c d p q r s =
    same_sum (row 14 11 13 9 a b c d) (row 9 14 11 13 a b c d) (product 2 (row 13 9 14 11 a b c d)) (product 3 (row 11 13 9 14 a b c d)) (bit_xor (bit_xor (bit_xor (product 14 a) (product 11 b)) (product 13 c)) (product 9 d)) (bit_xor (bit_xor (bit_xor (product 9 a) (product 14 b)) (product 11 c)) (product 13 d)) (bit_xor (bit_xor (bit_xor (product 2 (product 13 a)) (product 2 (product 9 b))) (product 2 (product 14 c))) (product 2 (product 11 d))) (bit_xor (bit_xor (bit_xor (product 3 (product 11 a)) (product 3 (product 13 b))) (product 3 (product 9 c))) (product 3 (product 14 d))) refl refl (row_times 2 13 9 14 11 a b c d p q r s) (row_times 3 11 13 9 14 a b c d p q r s)
    ∙ by_columns (product 14 a) (product 11 b) (product 13 c) (product 9 d) (product 9 a) (product 14 b) (product 11 c) (product 13 d) (product 2 (product 13 a)) (product 2 (product 9 b)) (product 2 (product 14 c)) (product 2 (product 11 d)) (product 3 (product 11 a)) (product 3 (product 13 b)) (product 3 (product 9 c)) (product 3 (product 14 d))
    ∙ only_2 c (cell20 a) (cell21 b) (cell22 c) (cell23 d) (same_values cell20 (λ (x : ℕ). 0) cell20_is a p)
    (same_values cell21 (λ (x : ℕ). 0) cell21_is b q)
    (same_values cell22 (λ (x : ℕ). x) cell22_is c r)
    (same_values cell23 (λ (x : ℕ). 0) cell23_is d s)

entry3 : (a b c d : ℕ) → a < 256 → b < 256 → c < 256 → d < 256
    → bit_xor (bit_xor (bit_xor (product 3 (row 14 11 13 9 a b c d)) (row 9 14 11 13 a b c d)) (row 13 9 14 11 a b c d)) (product 2 (row 11 13 9 14 a b c d)) ≡ d
entry3 a b c d p q r s =
    same_sum (product 3 (row 14 11 13 9 a b c d)) (row 9 14 11 13 a b c d) (row 13 9 14 11 a b c d) (product 2 (row 11 13 9 14 a b c d)) (bit_xor (bit_xor (bit_xor (product 3 (product 14 a)) (product 3 (product 11 b))) (product 3 (product 13 c))) (product 3 (product 9 d))) (bit_xor (bit_xor (bit_xor (product 9 a) (product 14 b)) (product 11 c)) (product 13 d)) (bit_xor (bit_xor (bit_xor (product 13 a) (product 9 b)) (product 14 c)) (product 11 d)) (bit_xor (bit_xor (bit_xor (product 2 (product 11 a)) (product 2 (product 13 b))) (product 2 (product 9 c))) (product 2 (product 14 d))) (row_times 3 14 11 13 9 a b c d p q r s) refl refl (row_times 2 11 13 9 14 a b c d p q r s)
    ∙ by_columns (product 3 (product 14 a)) (product 3 (product 11 b)) (product 3 (product 13 c)) (product 3 (product 9 d)) (product 9 a) (product 14 b) (product 11 c) (product 13 d) (product 13 a) (product 9 b) (product 14 c) (product 11 d) (product 2 (product 11 a)) (product 2 (product 13 b)) (product 2 (product 9 c)) (product 2 (product 14 d))
    ∙ only_3 d (cell30 a) (cell31 b) (cell32 c) (cell33 d) (same_values cell30 (λ (x : ℕ). 0) cell30_is a p)
    (same_values cell31 (λ (x : ℕ). 0) cell31_is b q)
    (same_values cell32 (λ (x : ℕ). 0) cell32_is c r)
    (same_values cell33 (λ (x : ℕ). x) cell33_is d s)

pub same_four : {a b c d x y z w : ℕ} → a ≡ x → b ≡ y → c ≡ z → d ≡ w → a ∷ b ∷ c ∷ d ∷ [] ≡ x ∷ y ∷ z ∷ w ∷ []
same_four p q r s = cc

-- MIXCOLUMNS of a column that INVMIXCOLUMNS made
mix_inverse : (a b c d : ℕ) → a < 256 → b < 256 → c < 256 → d < 256
    → mix_column (row 14 11 13 9 a b c d) (row 9 14 11 13 a b c d) (row 13 9 14 11 a b c d) (row 11 13 9 14 a b c d)
    ≡ a ∷ b ∷ c ∷ d ∷ []
mix_inverse a b c d p q r s =
    same_four (entry0 a b c d p q r s) (entry1 a b c d p q r s) (entry2 a b c d p q r s) (entry3 a b c d p q r s)

same_columns : {a b c d x y z w : ℕ} → a ≡ x → b ≡ y → c ≡ z → d ≡ w → mix_column a b c d ≡ mix_column x y z w
same_columns p q r s = cc

-- the same where a key is added after INVMIXCOLUMNS
pub mix_sum : (a b c d e f g h : ℕ) → a < 256 → b < 256 → c < 256 → d < 256 → e < 256 → f < 256 → g < 256 → h < 256
    → mix_column
    (bit_xor (row 14 11 13 9 a b c d) (row 14 11 13 9 e f g h)) (bit_xor (row 9 14 11 13 a b c d) (row 9 14 11 13 e f g h))
    (bit_xor (row 13 9 14 11 a b c d) (row 13 9 14 11 e f g h)) (bit_xor (row 11 13 9 14 a b c d) (row 11 13 9 14 e f g h))
    ≡ bit_xor a e ∷ bit_xor b f ∷ bit_xor c g ∷ bit_xor d h ∷ []
mix_sum a b c d e f g h pa pb pc pd pe pf pg ph =
    let sum : (k l m n : ℕ) → bit_xor (row k l m n a b c d) (row k l m n e f g h) ≡ row k l m n (bit_xor a e) (bit_xor b f) (bit_xor c g) (bit_xor d h) =
    λ k l m n. row_xor k l m n a b c d e f g h pa pb pc pd pe pf pg ph in
    same_columns (sum 14 11 13 9) (sum 9 14 11 13) (sum 13 9 14 11) (sum 11 13 9 14)
    ∙ mix_inverse (bit_xor a e) (bit_xor b f) (bit_xor c g) (bit_xor d h)
    (xor_of_8 a e pa pe) (xor_of_8 b f pb pf) (xor_of_8 c g pc pg) (xor_of_8 d h pd ph)

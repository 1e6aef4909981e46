-- The tables are what the standard's definitions give, at each byte. The S-box and its inverse are
-- computed once each, and the tables of words from those two.
use Rattle.std.proofs.Common.{◌≡◌, ℕ, ◌+◌, ◌%◌, ◌<◌, List, [], ◌∷◌, map, length, take, drop, get_or, refl, sym, ap, ◌∙◌, arith}
use Rattle.std.proofs.Math.ListN.{get_or-map}
use Rattle.std.proofs.lemmas.List as Lists
use Rattle.std.proofs.lemmas.List.{get_or-take, get_or-drop}
use Rattle.std.proofs.lemmas.List.FromFn.{get_or-map-range_with_len}
use Rattle.std.specs.Int.{w32, to_be_bytes}
use Rattle.std.specs.List.{range_with_len}
use Rattle.sn_aes.specs.Field.{product, power, inverse}
use Rattle.sn_aes.specs.Cipher.{sbox}
use Rattle.sn_aes.specs.Inverse.{inverse_sbox}
use Rattle.sn_aes.specs.declared.tables.TheConstants.{SBOX, ROUND_TABLE, LAST_TABLE, INVERSE_ROUND_TABLE, INVERSE_LAST_TABLE}

-- a table that was computed, at one place
table_at : (f : ℕ → ℕ) (t : List ℕ) → t ≡ map f (range_with_len 0 256) → (x : ℕ) → x < 256 → get_or t x 0 ≡ f x
table_at f t e x h = ap (λ (u : List ℕ). get_or u x 0) e ∙ get_or-map-range_with_len f 0 256 x x 0 h (omega arith)

-- two functions that were computed at each byte
pub same_values : (f g : ℕ → ℕ) → map f (range_with_len 0 256) ≡ map g (range_with_len 0 256) → (x : ℕ) → x < 256 → f x ≡ g x
same_values f g e x h = sym (table_at f (map f (range_with_len 0 256)) refl x h) ∙ table_at g (map f (range_with_len 0 256)) e x h

sbox_table : SBOX ≡ map sbox (range_with_len 0 256)
unfolding sbox inverse power product
sbox_table = refl

pub sbox_at : (x : ℕ) → x < 256 → get_or SBOX x 0 ≡ sbox x
sbox_at = table_at sbox SBOX sbox_table

-- the 256 words of a table from place n on
abbrev row_of : List ℕ → ℕ → List ℕ
row_of t n = take 256 (drop n t)

-- the inverse S-box, in row 3 of its table of words
abbrev inverse_bytes : List ℕ
inverse_bytes = row_of INVERSE_LAST_TABLE 768

inverse_sbox_table : inverse_bytes ≡ map inverse_sbox (range_with_len 0 256)
unfolding inverse_sbox inverse power product
inverse_sbox_table = refl

inverse_sbox_at : (x : ℕ) → x < 256 → get_or inverse_bytes x 0 ≡ inverse_sbox x
inverse_sbox_at = table_at inverse_sbox inverse_bytes inverse_sbox_table

-- ---- the tables of words, by their bytes

bytes_from : (t xs : List ℕ) (n : ℕ) (row : ℕ → List ℕ) → map (to_be_bytes w32) (row_of t n) ≡ map row xs → length xs ≡ 256
    → (x k : ℕ) → x < 256 → k ≡ n + x → to_be_bytes w32 (get_or t k 0) ≡ row (get_or xs x 0)
bytes_from t xs n row e long x k h at =
    ap (λ i. to_be_bytes w32 (get_or t i 0)) at
    ∙ ap (to_be_bytes w32) (sym (get_or-take 256 (drop n t) x 0 h ∙ get_or-drop n t x 0))
    ∙ sym (get_or-map (to_be_bytes w32) (row_of t n) x 0) ∙ ap (λ u. get_or u x (to_be_bytes w32 0)) e
    ∙ Lists.get_or-map row xs x 0 (to_be_bytes w32 0) (omega (arith, long, h))

abbrev row0 : ℕ → List ℕ
row0 y = product 2 y ∷ y ∷ y ∷ product 3 y ∷ []

table0_is : map (to_be_bytes w32) (row_of ROUND_TABLE 0) ≡ map row0 SBOX
unfolding product
table0_is = refl

pub table0_at : (x : ℕ) → x < 256 → to_be_bytes w32 (get_or ROUND_TABLE x 0) ≡ row0 (sbox x)
table0_at x h = bytes_from ROUND_TABLE SBOX 0 row0 table0_is refl x x h (omega arith) ∙ ap row0 (sbox_at x h)

abbrev row1 : ℕ → List ℕ
row1 y = product 3 y ∷ product 2 y ∷ y ∷ y ∷ []

table1_is : map (to_be_bytes w32) (row_of ROUND_TABLE 256) ≡ map row1 SBOX
unfolding product
table1_is = refl

pub table1_at : (x : ℕ) → x < 256 → to_be_bytes w32 (get_or ROUND_TABLE (256 + x) 0) ≡ row1 (sbox x)
table1_at x h = bytes_from ROUND_TABLE SBOX 256 row1 table1_is refl x (256 + x) h (omega arith) ∙ ap row1 (sbox_at x h)

abbrev row2 : ℕ → List ℕ
row2 y = y ∷ product 3 y ∷ product 2 y ∷ y ∷ []

table2_is : map (to_be_bytes w32) (row_of ROUND_TABLE 512) ≡ map row2 SBOX
unfolding product
table2_is = refl

pub table2_at : (x : ℕ) → x < 256 → to_be_bytes w32 (get_or ROUND_TABLE (512 + x) 0) ≡ row2 (sbox x)
table2_at x h = bytes_from ROUND_TABLE SBOX 512 row2 table2_is refl x (512 + x) h (omega arith) ∙ ap row2 (sbox_at x h)

abbrev row3 : ℕ → List ℕ
row3 y = y ∷ y ∷ product 3 y ∷ product 2 y ∷ []

table3_is : map (to_be_bytes w32) (row_of ROUND_TABLE 768) ≡ map row3 SBOX
unfolding product
table3_is = refl

pub table3_at : (x : ℕ) → x < 256 → to_be_bytes w32 (get_or ROUND_TABLE (768 + x) 0) ≡ row3 (sbox x)
table3_at x h = bytes_from ROUND_TABLE SBOX 768 row3 table3_is refl x (768 + x) h (omega arith) ∙ ap row3 (sbox_at x h)

abbrev last_row0 : ℕ → List ℕ
last_row0 y = y ∷ 0 ∷ 0 ∷ 0 ∷ []

last_table0_is : map (to_be_bytes w32) (row_of LAST_TABLE 0) ≡ map last_row0 SBOX
last_table0_is = refl

pub last_table0_at : (x : ℕ) → x < 256 → to_be_bytes w32 (get_or LAST_TABLE x 0) ≡ last_row0 (sbox x)
last_table0_at x h = bytes_from LAST_TABLE SBOX 0 last_row0 last_table0_is refl x x h (omega arith) ∙ ap last_row0 (sbox_at x h)

abbrev last_row1 : ℕ → List ℕ
last_row1 y = 0 ∷ y ∷ 0 ∷ 0 ∷ []

last_table1_is : map (to_be_bytes w32) (row_of LAST_TABLE 256) ≡ map last_row1 SBOX
last_table1_is = refl

pub last_table1_at : (x : ℕ) → x < 256 → to_be_bytes w32 (get_or LAST_TABLE (256 + x) 0) ≡ last_row1 (sbox x)
last_table1_at x h = bytes_from LAST_TABLE SBOX 256 last_row1 last_table1_is refl x (256 + x) h (omega arith) ∙ ap last_row1 (sbox_at x h)

abbrev last_row2 : ℕ → List ℕ
last_row2 y = 0 ∷ 0 ∷ y ∷ 0 ∷ []

last_table2_is : map (to_be_bytes w32) (row_of LAST_TABLE 512) ≡ map last_row2 SBOX
last_table2_is = refl

pub last_table2_at : (x : ℕ) → x < 256 → to_be_bytes w32 (get_or LAST_TABLE (512 + x) 0) ≡ last_row2 (sbox x)
last_table2_at x h = bytes_from LAST_TABLE SBOX 512 last_row2 last_table2_is refl x (512 + x) h (omega arith) ∙ ap last_row2 (sbox_at x h)

abbrev last_row3 : ℕ → List ℕ
last_row3 y = 0 ∷ 0 ∷ 0 ∷ y ∷ []

last_table3_is : map (to_be_bytes w32) (row_of LAST_TABLE 768) ≡ map last_row3 SBOX
last_table3_is = refl

pub last_table3_at : (x : ℕ) → x < 256 → to_be_bytes w32 (get_or LAST_TABLE (768 + x) 0) ≡ last_row3 (sbox x)
last_table3_at x h = bytes_from LAST_TABLE SBOX 768 last_row3 last_table3_is refl x (768 + x) h (omega arith) ∙ ap last_row3 (sbox_at x h)

abbrev inverse_row0 : ℕ → List ℕ
inverse_row0 y = product 14 y ∷ product 9 y ∷ product 13 y ∷ product 11 y ∷ []

inverse_table0_is : map (to_be_bytes w32) (row_of INVERSE_ROUND_TABLE 0) ≡ map inverse_row0 inverse_bytes
unfolding product
inverse_table0_is = refl

pub inverse_table0_at : (x : ℕ) → x < 256 → to_be_bytes w32 (get_or INVERSE_ROUND_TABLE x 0) ≡ inverse_row0 (inverse_sbox x)
inverse_table0_at x h = bytes_from INVERSE_ROUND_TABLE inverse_bytes 0 inverse_row0 inverse_table0_is refl x x h (omega arith) ∙ ap inverse_row0 (inverse_sbox_at x h)

abbrev inverse_row1 : ℕ → List ℕ
inverse_row1 y = product 11 y ∷ product 14 y ∷ product 9 y ∷ product 13 y ∷ []

inverse_table1_is : map (to_be_bytes w32) (row_of INVERSE_ROUND_TABLE 256) ≡ map inverse_row1 inverse_bytes
unfolding product
inverse_table1_is = refl

pub inverse_table1_at : (x : ℕ) → x < 256 → to_be_bytes w32 (get_or INVERSE_ROUND_TABLE (256 + x) 0) ≡ inverse_row1 (inverse_sbox x)
inverse_table1_at x h = bytes_from INVERSE_ROUND_TABLE inverse_bytes 256 inverse_row1 inverse_table1_is refl x (256 + x) h (omega arith) ∙ ap inverse_row1 (inverse_sbox_at x h)

abbrev inverse_row2 : ℕ → List ℕ
inverse_row2 y = product 13 y ∷ product 11 y ∷ product 14 y ∷ product 9 y ∷ []

inverse_table2_is : map (to_be_bytes w32) (row_of INVERSE_ROUND_TABLE 512) ≡ map inverse_row2 inverse_bytes
unfolding product
inverse_table2_is = refl

pub inverse_table2_at : (x : ℕ) → x < 256 → to_be_bytes w32 (get_or INVERSE_ROUND_TABLE (512 + x) 0) ≡ inverse_row2 (inverse_sbox x)
inverse_table2_at x h = bytes_from INVERSE_ROUND_TABLE inverse_bytes 512 inverse_row2 inverse_table2_is refl x (512 + x) h (omega arith) ∙ ap inverse_row2 (inverse_sbox_at x h)

abbrev inverse_row3 : ℕ → List ℕ
inverse_row3 y = product 9 y ∷ product 13 y ∷ product 11 y ∷ product 14 y ∷ []

inverse_table3_is : map (to_be_bytes w32) (row_of INVERSE_ROUND_TABLE 768) ≡ map inverse_row3 inverse_bytes
unfolding product
inverse_table3_is = refl

pub inverse_table3_at : (x : ℕ) → x < 256 → to_be_bytes w32 (get_or INVERSE_ROUND_TABLE (768 + x) 0) ≡ inverse_row3 (inverse_sbox x)
inverse_table3_at x h = bytes_from INVERSE_ROUND_TABLE inverse_bytes 768 inverse_row3 inverse_table3_is refl x (768 + x) h (omega arith) ∙ ap inverse_row3 (inverse_sbox_at x h)

inverse_last_table0_is : map (to_be_bytes w32) (row_of INVERSE_LAST_TABLE 0) ≡ map last_row0 inverse_bytes
inverse_last_table0_is = refl

pub inverse_last_table0_at : (x : ℕ) → x < 256 → to_be_bytes w32 (get_or INVERSE_LAST_TABLE x 0) ≡ last_row0 (inverse_sbox x)
inverse_last_table0_at x h = bytes_from INVERSE_LAST_TABLE inverse_bytes 0 last_row0 inverse_last_table0_is refl x x h (omega arith) ∙ ap last_row0 (inverse_sbox_at x h)

inverse_last_table1_is : map (to_be_bytes w32) (row_of INVERSE_LAST_TABLE 256) ≡ map last_row1 inverse_bytes
inverse_last_table1_is = refl

pub inverse_last_table1_at : (x : ℕ) → x < 256 → to_be_bytes w32 (get_or INVERSE_LAST_TABLE (256 + x) 0) ≡ last_row1 (inverse_sbox x)
inverse_last_table1_at x h = bytes_from INVERSE_LAST_TABLE inverse_bytes 256 last_row1 inverse_last_table1_is refl x (256 + x) h (omega arith) ∙ ap last_row1 (inverse_sbox_at x h)

inverse_last_table2_is : map (to_be_bytes w32) (row_of INVERSE_LAST_TABLE 512) ≡ map last_row2 inverse_bytes
inverse_last_table2_is = refl

pub inverse_last_table2_at : (x : ℕ) → x < 256 → to_be_bytes w32 (get_or INVERSE_LAST_TABLE (512 + x) 0) ≡ last_row2 (inverse_sbox x)
inverse_last_table2_at x h = bytes_from INVERSE_LAST_TABLE inverse_bytes 512 last_row2 inverse_last_table2_is refl x (512 + x) h (omega arith) ∙ ap last_row2 (inverse_sbox_at x h)

inverse_last_table3_is : map (to_be_bytes w32) (row_of INVERSE_LAST_TABLE 768) ≡ map last_row3 inverse_bytes
inverse_last_table3_is = refl

pub inverse_last_table3_at : (x : ℕ) → x < 256 → to_be_bytes w32 (get_or INVERSE_LAST_TABLE (768 + x) 0) ≡ last_row3 (inverse_sbox x)
inverse_last_table3_at x h = bytes_from INVERSE_LAST_TABLE inverse_bytes 768 last_row3 inverse_last_table3_is refl x (768 + x) h (omega arith) ∙ ap last_row3 (inverse_sbox_at x h)

-- ---- the S-box and its inverse take each other back

below_from_mod : (n : ℕ) → n % 256 ≡ n → n < 256
below_from_mod n e = omega arith

-- reading the second table at what the first gives
read_twice : (f g : ℕ → ℕ) (t u : List ℕ) → t ≡ map f (range_with_len 0 256) → u ≡ map g (range_with_len 0 256)
    → map (λ (x : ℕ). get_or t x 0 % 256) (range_with_len 0 256) ≡ t
    → map (λ (x : ℕ). get_or u (get_or t x 0) 0) (range_with_len 0 256) ≡ map (λ (x : ℕ). x) (range_with_len 0 256)
    → (x : ℕ) → x < 256 → (f x < 256) × (g (f x) ≡ x)
read_twice f g t u e d small twice x h =
    let first = table_at f t e x h in
    let wrapped : get_or t x 0 % 256 ≡ get_or t x 0 = sym (table_at (λ (x : ℕ). get_or t x 0 % 256) t (sym small) x h) in
    let below : get_or t x 0 < 256 = below_from_mod (get_or t x 0) wrapped in
    let low : f x < 256 = rw first at below in
    let back = same_values (λ (x : ℕ). get_or u (get_or t x 0) 0) (λ (x : ℕ). x) twice x h in
    (low, sym (table_at g u d (f x) low) ∙ rw first at back)

pub sbox_of_inverse : (x : ℕ) → x < 256 → (inverse_sbox x < 256) × (sbox (inverse_sbox x) ≡ x)
sbox_of_inverse = read_twice inverse_sbox sbox inverse_bytes SBOX inverse_sbox_table sbox_table refl refl

pub inverse_of_sbox : (x : ℕ) → x < 256 → (sbox x < 256) × (inverse_sbox (sbox x) ≡ x)
inverse_of_sbox = read_twice sbox inverse_sbox SBOX inverse_bytes sbox_table inverse_sbox_table refl refl

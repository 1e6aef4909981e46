-- INVMIXCOLUMNS takes MIXCOLUMNS back, entry by entry, at each byte.
use Rattle.std.proofs.Common.{◌≡◌, ℕ, ◌<◌, [], ◌∷◌, map, bit_xor, refl, ap, ◌∙◌}
use Rattle.std.specs.List.{range_with_len}
use Rattle.std.proofs.lemmas.Nat.{xor_of_8}
use Rattle.sn_aes.specs.Field.{product}
use Rattle.sn_aes.specs.Inverse.{inverse_mix_column}
use Rattle.sn_aes.proofs.TableRows.{same_values}
use Rattle.sn_aes.proofs.MixLemmas.{by_columns, only_0, only_1, only_2, only_3, product_small, product_xor, same_four, same_sum}

product_sum : (t a b c d : ℕ) → a < 256 → b < 256 → c < 256 → d < 256
    → product t (bit_xor (bit_xor (bit_xor a b) c) d)
    ≡ bit_xor (bit_xor (bit_xor (product t a) (product t b)) (product t c)) (product t d)
product_sum t a b c d p q r s =
    let two = xor_of_8 a b p q in
    let three = xor_of_8 (bit_xor a b) c two r in
    product_xor t (bit_xor (bit_xor a b) c) d three s
    ∙ ap (λ (x : ℕ). bit_xor x (product t d)) (product_xor t (bit_xor a b) c two r
    ∙ ap (λ (x : ℕ). bit_xor x (product t c)) (product_xor t a b p q))

abbrev cell00 : ℕ → ℕ
cell00 x = bit_xor (bit_xor (bit_xor (product 14 (product 2 x)) (product 11 x)) (product 13 x)) (product 9 (product 3 x))

cell00_is : map cell00 (range_with_len 0 256) ≡ map (λ (x : ℕ). x) (range_with_len 0 256)
unfolding product
cell00_is = refl

abbrev cell01 : ℕ → ℕ
cell01 x = bit_xor (bit_xor (bit_xor (product 14 (product 3 x)) (product 11 (product 2 x))) (product 13 x)) (product 9 x)

cell01_is : map cell01 (range_with_len 0 256) ≡ map (λ (x : ℕ). 0) (range_with_len 0 256)
unfolding product
cell01_is = refl

abbrev cell02 : ℕ → ℕ
cell02 x = bit_xor (bit_xor (bit_xor (product 14 x) (product 11 (product 3 x))) (product 13 (product 2 x))) (product 9 x)

cell02_is : map cell02 (range_with_len 0 256) ≡ map (λ (x : ℕ). 0) (range_with_len 0 256)
unfolding product
cell02_is = refl

abbrev cell03 : ℕ → ℕ
cell03 x = bit_xor (bit_xor (bit_xor (product 14 x) (product 11 x)) (product 13 (product 3 x))) (product 9 (product 2 x))

cell03_is : map cell03 (range_with_len 0 256) ≡ map (λ (x : ℕ). 0) (range_with_len 0 256)
unfolding product
cell03_is = refl

abbrev cell10 : ℕ → ℕ
cell10 x = bit_xor (bit_xor (bit_xor (product 9 (product 2 x)) (product 14 x)) (product 11 x)) (product 13 (product 3 x))

cell10_is : map cell10 (range_with_len 0 256) ≡ map (λ (x : ℕ). 0) (range_with_len 0 256)
unfolding product
cell10_is = refl

abbrev cell11 : ℕ → ℕ
cell11 x = bit_xor (bit_xor (bit_xor (product 9 (product 3 x)) (product 14 (product 2 x))) (product 11 x)) (product 13 x)

cell11_is : map cell11 (range_with_len 0 256) ≡ map (λ (x : ℕ). x) (range_with_len 0 256)
unfolding product
cell11_is = refl

abbrev cell12 : ℕ → ℕ
cell12 x = bit_xor (bit_xor (bit_xor (product 9 x) (product 14 (product 3 x))) (product 11 (product 2 x))) (product 13 x)

cell12_is : map cell12 (range_with_len 0 256) ≡ map (λ (x : ℕ). 0) (range_with_len 0 256)
unfolding product
cell12_is = refl

abbrev cell13 : ℕ → ℕ
cell13 x = bit_xor (bit_xor (bit_xor (product 9 x) (product 14 x)) (product 11 (product 3 x))) (product 13 (product 2 x))

cell13_is : map cell13 (range_with_len 0 256) ≡ map (λ (x : ℕ). 0) (range_with_len 0 256)
unfolding product
cell13_is = refl

abbrev cell20 : ℕ → ℕ
cell20 x = bit_xor (bit_xor (bit_xor (product 13 (product 2 x)) (product 9 x)) (product 14 x)) (product 11 (product 3 x))

cell20_is : map cell20 (range_with_len 0 256) ≡ map (λ (x : ℕ). 0) (range_with_len 0 256)
unfolding product
cell20_is = refl

abbrev cell21 : ℕ → ℕ
cell21 x = bit_xor (bit_xor (bit_xor (product 13 (product 3 x)) (product 9 (product 2 x))) (product 14 x)) (product 11 x)

cell21_is : map cell21 (range_with_len 0 256) ≡ map (λ (x : ℕ). 0) (range_with_len 0 256)
unfolding product
cell21_is = refl

abbrev cell22 : ℕ → ℕ
cell22 x = bit_xor (bit_xor (bit_xor (product 13 x) (product 9 (product 3 x))) (product 14 (product 2 x))) (product 11 x)

cell22_is : map cell22 (range_with_len 0 256) ≡ map (λ (x : ℕ). x) (range_with_len 0 256)
unfolding product
cell22_is = refl

abbrev cell23 : ℕ → ℕ
cell23 x = bit_xor (bit_xor (bit_xor (product 13 x) (product 9 x)) (product 14 (product 3 x))) (product 11 (product 2 x))

cell23_is : map cell23 (range_with_len 0 256) ≡ map (λ (x : ℕ). 0) (range_with_len 0 256)
unfolding product
cell23_is = refl

abbrev cell30 : ℕ → ℕ
cell30 x = bit_xor (bit_xor (bit_xor (product 11 (product 2 x)) (product 13 x)) (product 9 x)) (product 14 (product 3 x))

cell30_is : map cell30 (range_with_len 0 256) ≡ map (λ (x : ℕ). 0) (range_with_len 0 256)
unfolding product
cell30_is = refl

abbrev cell31 : ℕ → ℕ
cell31 x = bit_xor (bit_xor (bit_xor (product 11 (product 3 x)) (product 13 (product 2 x))) (product 9 x)) (product 14 x)

cell31_is : map cell31 (range_with_len 0 256) ≡ map (λ (x : ℕ). 0) (range_with_len 0 256)
unfolding product
cell31_is = refl

abbrev cell32 : ℕ → ℕ
cell32 x = bit_xor (bit_xor (bit_xor (product 11 x) (product 13 (product 3 x))) (product 9 (product 2 x))) (product 14 x)

cell32_is : map cell32 (range_with_len 0 256) ≡ map (λ (x : ℕ). 0) (range_with_len 0 256)
unfolding product
cell32_is = refl

abbrev cell33 : ℕ → ℕ
cell33 x = bit_xor (bit_xor (bit_xor (product 11 x) (product 13 x)) (product 9 (product 3 x))) (product 14 (product 2 x))

cell33_is : map cell33 (range_with_len 0 256) ≡ map (λ (x : ℕ). x) (range_with_len 0 256)
unfolding product
cell33_is = refl

entry0 : (a b c d : ℕ) → a < 256 → b < 256 → c < 256 → d < 256 → bit_xor (bit_xor (bit_xor (product 14 (bit_xor (bit_xor (bit_xor (product 2 a) (product 3 b)) c) d)) (product 11 (bit_xor (bit_xor (bit_xor a (product 2 b)) (product 3 c)) d))) (product 13 (bit_xor (bit_xor (bit_xor a b) (product 2 c)) (product 3 d)))) (product 9 (bit_xor (bit_xor (bit_xor (product 3 a) b) c) (product 2 d))) ≡ a
entry0 a b c d p q r s =
    same_sum (product 14 (bit_xor (bit_xor (bit_xor (product 2 a) (product 3 b)) c) d)) (product 11 (bit_xor (bit_xor (bit_xor a (product 2 b)) (product 3 c)) d)) (product 13 (bit_xor (bit_xor (bit_xor a b) (product 2 c)) (product 3 d))) (product 9 (bit_xor (bit_xor (bit_xor (product 3 a) b) c) (product 2 d))) (bit_xor (bit_xor (bit_xor (product 14 (product 2 a)) (product 14 (product 3 b))) (product 14 c)) (product 14 d)) (bit_xor (bit_xor (bit_xor (product 11 a) (product 11 (product 2 b))) (product 11 (product 3 c))) (product 11 d)) (bit_xor (bit_xor (bit_xor (product 13 a) (product 13 b)) (product 13 (product 2 c))) (product 13 (product 3 d))) (bit_xor (bit_xor (bit_xor (product 9 (product 3 a)) (product 9 b)) (product 9 c)) (product 9 (product 2 d)))
    (product_sum 14 (product 2 a) (product 3 b) c d (product_small 2 a p) (product_small 3 b q) r s) (product_sum 11 a (product 2 b) (product 3 c) d p (product_small 2 b q) (product_small 3 c r) s) (product_sum 13 a b (product 2 c) (product 3 d) p q (product_small 2 c r) (product_small 3 d s)) (product_sum 9 (product 3 a) b c (product 2 d) (product_small 3 a p) q r (product_small 2 d s))
    ∙ by_columns (product 14 (product 2 a)) (product 14 (product 3 b)) (product 14 c) (product 14 d) (product 11 a) (product 11 (product 2 b)) (product 11 (product 3 c)) (product 11 d) (product 13 a) (product 13 b) (product 13 (product 2 c)) (product 13 (product 3 d)) (product 9 (product 3 a)) (product 9 b) (product 9 c) (product 9 (product 2 d))
    ∙ only_0 a (cell00 a) (cell01 b) (cell02 c) (cell03 d)
    (same_values cell00 (λ (x : ℕ). x) cell00_is a p)
    (same_values cell01 (λ (x : ℕ). 0) cell01_is b q)
    (same_values cell02 (λ (x : ℕ). 0) cell02_is c r)
    (same_values cell03 (λ (x : ℕ). 0) cell03_is d s)

entry1 : (a b c d : ℕ) → a < 256 → b < 256 → c < 256 → d < 256 → bit_xor (bit_xor (bit_xor (product 9 (bit_xor (bit_xor (bit_xor (product 2 a) (product 3 b)) c) d)) (product 14 (bit_xor (bit_xor (bit_xor a (product 2 b)) (product 3 c)) d))) (product 11 (bit_xor (bit_xor (bit_xor a b) (product 2 c)) (product 3 d)))) (product 13 (bit_xor (bit_xor (bit_xor (product 3 a) b) c) (product 2 d))) ≡ b
entry1 a b c d p q r s =
    same_sum (product 9 (bit_xor (bit_xor (bit_xor (product 2 a) (product 3 b)) c) d)) (product 14 (bit_xor (bit_xor (bit_xor a (product 2 b)) (product 3 c)) d)) (product 11 (bit_xor (bit_xor (bit_xor a b) (product 2 c)) (product 3 d))) (product 13 (bit_xor (bit_xor (bit_xor (product 3 a) b) c) (product 2 d))) (bit_xor (bit_xor (bit_xor (product 9 (product 2 a)) (product 9 (product 3 b))) (product 9 c)) (product 9 d)) (bit_xor (bit_xor (bit_xor (product 14 a) (product 14 (product 2 b))) (product 14 (product 3 c))) (product 14 d)) (bit_xor (bit_xor (bit_xor (product 11 a) (product 11 b)) (product 11 (product 2 c))) (product 11 (product 3 d))) (bit_xor (bit_xor (bit_xor (product 13 (product 3 a)) (product 13 b)) (product 13 c)) (product 13 (product 2 d)))
    (product_sum 9 (product 2 a) (product 3 b) c d (product_small 2 a p) (product_small 3 b q) r s) (product_sum 14 a (product 2 b) (product 3 c) d p (product_small 2 b q) (product_small 3 c r) s) (product_sum 11 a b (product 2 c) (product 3 d) p q (product_small 2 c r) (product_small 3 d s)) (product_sum 13 (product 3 a) b c (product 2 d) (product_small 3 a p) q r (product_small 2 d s))
    ∙ by_columns (product 9 (product 2 a)) (product 9 (product 3 b)) (product 9 c) (product 9 d) (product 14 a) (product 14 (product 2 b)) (product 14 (product 3 c)) (product 14 d) (product 11 a) (product 11 b) (product 11 (product 2 c)) (product 11 (product 3 d)) (product 13 (product 3 a)) (product 13 b) (product 13 c) (product 13 (product 2 d))
    ∙ only_1 b (cell10 a) (cell11 b) (cell12 c) (cell13 d)
    (same_values cell10 (λ (x : ℕ). 0) cell10_is a p)
    (same_values cell11 (λ (x : ℕ). x) cell11_is b q)
    (same_values cell12 (λ (x : ℕ). 0) cell12_is c r)
    (same_values cell13 (λ (x : ℕ). 0) cell13_is d s)

entry2 : (a b c d : ℕ) → a < 256 → b < 256 → c < 256 → d < 256 → bit_xor (bit_xor (bit_xor (product 13 (bit_xor (bit_xor (bit_xor (product 2 a) (product 3 b)) c) d)) (product 9 (bit_xor (bit_xor (bit_xor a (product 2 b)) (product 3 c)) d))) (product 14 (bit_xor (bit_xor (bit_xor a b) (product 2 c)) (product 3 d)))) (product 11 (bit_xor (bit_xor (bit_xor (product 3 a) b) c) (product 2 d))) ≡ c
entry2 a b c d p q r s =
    same_sum (product 13 (bit_xor (bit_xor (bit_xor (product 2 a) (product 3 b)) c) d)) (product 9 (bit_xor (bit_xor (bit_xor a (product 2 b)) (product 3 c)) d)) (product 14 (bit_xor (bit_xor (bit_xor a b) (product 2 c)) (product 3 d))) (product 11 (bit_xor (bit_xor (bit_xor (product 3 a) b) c) (product 2 d))) (bit_xor (bit_xor (bit_xor (product 13 (product 2 a)) (product 13 (product 3 b))) (product 13 c)) (product 13 d)) (bit_xor (bit_xor (bit_xor (product 9 a) (product 9 (product 2 b))) (product 9 (product 3 c))) (product 9 d)) (bit_xor (bit_xor (bit_xor (product 14 a) (product 14 b)) (product 14 (product 2 c))) (product 14 (product 3 d))) (bit_xor (bit_xor (bit_xor (product 11 (product 3 a)) (product 11 b)) (product 11 c)) (product 11 (product 2 d)))
    (product_sum 13 (product 2 a) (product 3 b) c d (product_small 2 a p) (product_small 3 b q) r s) (product_sum 9 a (product 2 b) (product 3 c) d p (product_small 2 b q) (product_small 3 c r) s) (product_sum 14 a b (product 2 c) (product 3 d) p q (product_small 2 c r) (product_small 3 d s)) (product_sum 11 (product 3 a) b c (product 2 d) (product_small 3 a p) q r (product_small 2 d s))
    ∙ by_columns (product 13 (product 2 a)) (product 13 (product 3 b)) (product 13 c) (product 13 d) (product 9 a) (product 9 (product 2 b)) (product 9 (product 3 c)) (product 9 d) (product 14 a) (product 14 b) (product 14 (product 2 c)) (product 14 (product 3 d)) (product 11 (product 3 a)) (product 11 b) (product 11 c) (product 11 (product 2 d))
    ∙ only_2 c (cell20 a) (cell21 b) (cell22 c) (cell23 d)
    (same_values cell20 (λ (x : ℕ). 0) cell20_is a p)
    (same_values cell21 (λ (x : ℕ). 0) cell21_is b q)
    (same_values cell22 (λ (x : ℕ). x) cell22_is c r)
    (same_values cell23 (λ (x : ℕ). 0) cell23_is d s)

entry3 : (a b c d : ℕ) → a < 256 → b < 256 → c < 256 → d < 256 → bit_xor (bit_xor (bit_xor (product 11 (bit_xor (bit_xor (bit_xor (product 2 a) (product 3 b)) c) d)) (product 13 (bit_xor (bit_xor (bit_xor a (product 2 b)) (product 3 c)) d))) (product 9 (bit_xor (bit_xor (bit_xor a b) (product 2 c)) (product 3 d)))) (product 14 (bit_xor (bit_xor (bit_xor (product 3 a) b) c) (product 2 d))) ≡ d
entry3 a b c d p q r s =
    same_sum (product 11 (bit_xor (bit_xor (bit_xor (product 2 a) (product 3 b)) c) d)) (product 13 (bit_xor (bit_xor (bit_xor a (product 2 b)) (product 3 c)) d)) (product 9 (bit_xor (bit_xor (bit_xor a b) (product 2 c)) (product 3 d))) (product 14 (bit_xor (bit_xor (bit_xor (product 3 a) b) c) (product 2 d))) (bit_xor (bit_xor (bit_xor (product 11 (product 2 a)) (product 11 (product 3 b))) (product 11 c)) (product 11 d)) (bit_xor (bit_xor (bit_xor (product 13 a) (product 13 (product 2 b))) (product 13 (product 3 c))) (product 13 d)) (bit_xor (bit_xor (bit_xor (product 9 a) (product 9 b)) (product 9 (product 2 c))) (product 9 (product 3 d))) (bit_xor (bit_xor (bit_xor (product 14 (product 3 a)) (product 14 b)) (product 14 c)) (product 14 (product 2 d)))
    (product_sum 11 (product 2 a) (product 3 b) c d (product_small 2 a p) (product_small 3 b q) r s) (product_sum 13 a (product 2 b) (product 3 c) d p (product_small 2 b q) (product_small 3 c r) s) (product_sum 9 a b (product 2 c) (product 3 d) p q (product_small 2 c r) (product_small 3 d s)) (product_sum 14 (product 3 a) b c (product 2 d) (product_small 3 a p) q r (product_small 2 d s))
    ∙ by_columns (product 11 (product 2 a)) (product 11 (product 3 b)) (product 11 c) (product 11 d) (product 13 a) (product 13 (product 2 b)) (product 13 (product 3 c)) (product 13 d) (product 9 a) (product 9 b) (product 9 (product 2 c)) (product 9 (product 3 d)) (product 14 (product 3 a)) (product 14 b) (product 14 c) (product 14 (product 2 d))
    ∙ only_3 d (cell30 a) (cell31 b) (cell32 c) (cell33 d)
    (same_values cell30 (λ (x : ℕ). 0) cell30_is a p)
    (same_values cell31 (λ (x : ℕ). 0) cell31_is b q)
    (same_values cell32 (λ (x : ℕ). 0) cell32_is c r)
    (same_values cell33 (λ (x : ℕ). x) cell33_is d s)

pub unmix : (a b c d : ℕ) → a < 256 → b < 256 → c < 256 → d < 256
    → inverse_mix_column (bit_xor (bit_xor (bit_xor (product 2 a) (product 3 b)) c) d)
    (bit_xor (bit_xor (bit_xor a (product 2 b)) (product 3 c)) d)
    (bit_xor (bit_xor (bit_xor a b) (product 2 c)) (product 3 d))
    (bit_xor (bit_xor (bit_xor (product 3 a) b) c) (product 2 d))
    ≡ a ∷ b ∷ c ∷ d ∷ []
unmix a b c d p q r s =
    same_four (entry0 a b c d p q r s) (entry1 a b c d p q r s) (entry2 a b c d p q r s) (entry3 a b c d p q r s)

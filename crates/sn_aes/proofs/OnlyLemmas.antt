-- Two blocks that the cipher takes to one are the same.
use Rattle.std.proofs.Common.{◌≡◌, ℕ, zero, suc, ◌+◌, ◌*◌, ◌<◌, List, [], ◌∷◌, ◌++◌, map, length, get_or, refl, sym, ap, ap₂, ◌∙◌, lit<, arith}
use Rattle.std.proofs.lemmas.Nat.{xor_of_8}
use Rattle.sn_aes.specs.Cipher.{sbox, sub_bytes, shift_rows, mix_columns, mix_column, xor_bytes, four_words, round, rounds, cipher}
use Rattle.sn_aes.specs.Inverse.{inverse_sbox, inverse_mix_columns}
use Rattle.sn_aes.proofs.InverseLemmas.{AreBytes, append_small, back, four_small, length-xor_bytes, same_sixteen, sixteen, sixteen_is, sixteen_small, words_small, xor_bytes_cancel, xor_bytes_small}
use Rattle.sn_aes.proofs.MixLemmas.{product_small}
use Rattle.sn_aes.proofs.TableRows.{inverse_of_sbox}
use Rattle.sn_aes.proofs.UnmixLemmas.{unmix}

sbox_small : (xs : List ℕ) → AreBytes xs → (k : ℕ) → get_or (map sbox xs) k 0 < 256
sbox_small [] p k = lit< tt
sbox_small (x ∷ xs) p zero = (inverse_of_sbox x (p zero)).0
sbox_small (x ∷ xs) p (suc k) = sbox_small xs (λ j. p (suc j)) k

sbox_back : (xs : List ℕ) → AreBytes xs → (k : ℕ) → k < length xs → inverse_sbox (get_or (map sbox xs) k 0) ≡ get_or xs k 0
sbox_back [] p k h = absurd (omega arith)
sbox_back (x ∷ xs) p zero h = (inverse_of_sbox x (p zero)).1
sbox_back (x ∷ xs) p (suc k) h = sbox_back xs (λ j. p (suc j)) k (omega arith)

abbrev forth_places : List ℕ
forth_places = 0 ∷ 5 ∷ 10 ∷ 15 ∷ 4 ∷ 9 ∷ 14 ∷ 3 ∷ 8 ∷ 13 ∷ 2 ∷ 7 ∷ 12 ∷ 1 ∷ 6 ∷ 11 ∷ []

abbrev forth : List ℕ → List ℕ
forth s = shift_rows (sub_bytes s)

forth_small : (s : List ℕ) → AreBytes s → AreBytes (forth s)
forth_small s p = sixteen_small (λ k. get_or (map sbox s) (get_or forth_places k 0) 0) (λ k. sbox_small s p (get_or forth_places k 0))

back_of_forth : (s : List ℕ) → AreBytes s → length s ≡ 16 → back (forth s) ≡ s
back_of_forth s p h =
    same_sixteen (λ k. inverse_sbox (get_or (map sbox s) k 0)) (λ k. get_or s k 0) (λ k low. sbox_back s p k (omega arith))
    ∙ sixteen_is s h

mix_column_small : (a b c d : ℕ) → a < 256 → b < 256 → c < 256 → d < 256 → AreBytes (mix_column a b c d)
mix_column_small a b c d p q r s =
    four_small _ _ _ _
    (xor_of_8 _ _ (xor_of_8 _ _ (xor_of_8 _ _ (product_small 2 a p) (product_small 3 b q)) r) s)
    (xor_of_8 _ _ (xor_of_8 _ _ (xor_of_8 _ _ p (product_small 2 b q)) (product_small 3 c r)) s)
    (xor_of_8 _ _ (xor_of_8 _ _ (xor_of_8 _ _ p q) (product_small 2 c r)) (product_small 3 d s))
    (xor_of_8 _ _ (xor_of_8 _ _ (xor_of_8 _ _ (product_small 3 a p) q) r) (product_small 2 d s))

mix_small : (s : List ℕ) → AreBytes s → AreBytes (mix_columns s)
mix_small s p =
    let col : ℕ → ℕ → ℕ → ℕ → List ℕ = λ i j k l. mix_column (get_or s i 0) (get_or s j 0) (get_or s k 0) (get_or s l 0) in
    let column : (i j k l : ℕ) → AreBytes (col i j k l) = λ i j k l. mix_column_small _ _ _ _ (p i) (p j) (p k) (p l) in
    let a = col 0 1 2 3 in
    let b = col 4 5 6 7 in
    let c = col 8 9 10 11 in
    let d = col 12 13 14 15 in
    append_small (a ++ b ++ c) d (append_small (a ++ b) c (append_small a b (column 0 1 2 3) (column 4 5 6 7)) (column 8 9 10 11)) (column 12 13 14 15)

unmix_columns : (s : List ℕ) → AreBytes s → inverse_mix_columns (mix_columns s) ≡ sixteen (λ k. get_or s k 0)
unmix_columns s p =
    let glue : List ℕ → List ℕ → List ℕ = λ x y. x ++ y in
    ap₂ glue (ap₂ glue (ap₂ glue
    (unmix _ _ _ _ (p 0) (p 1) (p 2) (p 3)) (unmix _ _ _ _ (p 4) (p 5) (p 6) (p 7)))
    (unmix _ _ _ _ (p 8) (p 9) (p 10) (p 11))) (unmix _ _ _ _ (p 12) (p 13) (p 14) (p 15))

module _ (keys c : List ℕ) (small : AreBytes c) (long : length c ≡ 16) where
  states_small : (n : ℕ) → AreBytes (rounds keys c n)
  unfolding rounds round
  states_small zero = xor_bytes_small c (four_words keys 0) small (words_small keys 0)
  states_small (suc n) =
      xor_bytes_small (mix_columns (forth (rounds keys c n))) (four_words keys (4 * (n + 1)))
      (mix_small (forth (rounds keys c n)) (forth_small (rounds keys c n) (states_small n))) (words_small keys (4 * (n + 1)))

  states_length : (n : ℕ) → length (rounds keys c n) ≡ 16
  unfolding rounds round
  states_length zero = length-xor_bytes c (four_words keys 0) (omega (arith, long)) ∙ long
  states_length (suc n) = refl

  -- a round undone
  undone : (n : ℕ) → back (inverse_mix_columns (xor_bytes (rounds keys c (suc n)) (four_words keys (4 * (n + 1))))) ≡ rounds keys c n
  unfolding rounds round
  undone n =
      let s = rounds keys c n in
      ap (λ (x : List ℕ). back (inverse_mix_columns x)) (xor_bytes_cancel (mix_columns (forth s)) (four_words keys (4 * (n + 1))) (omega arith))
      ∙ ap back (unmix_columns (forth s) (forth_small s (states_small n)))
      ∙ back_of_forth s (states_small n) (states_length n)

  start_undone : xor_bytes (rounds keys c 0) (four_words keys 0) ≡ c
  unfolding rounds
  start_undone = xor_bytes_cancel c (four_words keys 0) (omega (arith, long))

  end_undone : back (xor_bytes (cipher keys c) (four_words keys 56)) ≡ rounds keys c 13
  unfolding cipher
  end_undone =
      let s = rounds keys c 13 in
      ap back (xor_bytes_cancel (forth s) (four_words keys 56) (omega arith))
      ∙ back_of_forth s (states_small 13) (states_length 13)

module _ (keys b c : List ℕ) (b_small : AreBytes b) (c_small : AreBytes c) (b_long : length b ≡ 16) (c_long : length c ≡ 16) where
  same_starts : (n : ℕ) → rounds keys b n ≡ rounds keys c n → b ≡ c
  same_starts zero e =
      sym (start_undone keys b b_small b_long) ∙ ap (λ (x : List ℕ). xor_bytes x (four_words keys 0)) e ∙ start_undone keys c c_small c_long
  same_starts (suc n) e =
      same_starts n (sym (undone keys b b_small b_long n)
      ∙ ap (λ (x : List ℕ). back (inverse_mix_columns (xor_bytes x (four_words keys (4 * (n + 1)))))) e
      ∙ undone keys c c_small c_long n)

  pub cipher_injective : cipher keys b ≡ cipher keys c → b ≡ c
  cipher_injective e =
      same_starts 13 (sym (end_undone keys b b_small b_long)
      ∙ ap (λ (x : List ℕ). back (xor_bytes x (four_words keys 56))) e ∙ end_undone keys c c_small c_long)

-- The cipher takes what the inverse cipher gives back.
use Rattle.std.proofs.Common.{◌≡◌, ℕ, zero, suc, ◌+◌, ◌-◌, ◌*◌, ◌/◌, ◌%◌, ◌^◌, ◌<◌, ◌≤◌, List, [], ◌∷◌, ◌++◌, map, length, get_or, refl, ap, ap₂, ◌∙◌, lit<, arith}
use Rattle.std.proofs.lemmas.Nat.{xor_of_8}
use Rattle.std.specs.Int.{w32, to_be_bytes}
use Rattle.sn_aes.specs.Cipher.{sbox, sub_bytes, shift_rows, mix_columns, xor_bytes, four_words, add_round_key, round, rounds, cipher}
use Rattle.sn_aes.specs.Inverse.{inverse_sbox, inverse_sub_bytes, inverse_shift_rows, inverse_mix_columns, inverse_mix_bytes, AreInverseKeys, inverse_round, inverse_rounds, inverse_cipher}
use Rattle.sn_aes.proofs.TableRows.{sbox_of_inverse}
use Rattle.sn_aes.proofs.MixLemmas.{xor_cancel, mix_sum, row_small}

-- ---- lists of bytes

abbrev pub AreBytes : List ℕ → Type 0
AreBytes xs = (k : ℕ) → get_or xs k 0 < 256

pub xor_bytes_small : (xs ys : List ℕ) → AreBytes xs → AreBytes ys → AreBytes (xor_bytes xs ys)
xor_bytes_small [] ys p q k = lit< tt
xor_bytes_small (x ∷ xs) [] p q k = lit< tt
xor_bytes_small (x ∷ xs) (y ∷ ys) p q zero = xor_of_8 x y (p zero) (q zero)
xor_bytes_small (x ∷ xs) (y ∷ ys) p q (suc k) = xor_bytes_small xs ys (λ j. p (suc j)) (λ j. q (suc j)) k

pub append_small : (xs ys : List ℕ) → AreBytes xs → AreBytes ys → AreBytes (xs ++ ys)
append_small [] ys p q k = q k
append_small (x ∷ xs) ys p q zero = p zero
append_small (x ∷ xs) ys p q (suc k) = append_small xs ys (λ j. p (suc j)) q k

pub four_small : (a b c d : ℕ) → a < 256 → b < 256 → c < 256 → d < 256 → AreBytes (a ∷ b ∷ c ∷ d ∷ [])
four_small a b c d p q r s zero = p
four_small a b c d p q r s (suc zero) = q
four_small a b c d p q r s (suc (suc zero)) = r
four_small a b c d p q r s (suc (suc (suc zero))) = s
four_small a b c d p q r s (suc (suc (suc (suc k)))) = lit< tt

below_256 : (n : ℕ) → n % 256 < 256
below_256 n = omega arith

pub word_small : (w : ℕ) → AreBytes (to_be_bytes w32 w)
word_small w = four_small _ _ _ _ (below_256 (w / 256 ^ 3)) (below_256 (w / 256 ^ 2)) (below_256 (w / 256 ^ 1)) (below_256 w)

pub words_small : (w : List ℕ) (i : ℕ) → AreBytes (four_words w i)
words_small w i =
    let a = to_be_bytes w32 (get_or w i 0) in
    let b = to_be_bytes w32 (get_or w (i + 1) 0) in
    let c = to_be_bytes w32 (get_or w (i + 2) 0) in
    let d = to_be_bytes w32 (get_or w (i + 3) 0) in
    append_small (a ++ b ++ c) d (append_small (a ++ b) c (append_small a b (word_small (get_or w i 0)) (word_small (get_or w (i + 1) 0))) (word_small (get_or w (i + 2) 0)))
    (word_small (get_or w (i + 3) 0))

map_small : (xs : List ℕ) → AreBytes xs → (k : ℕ) → get_or (map inverse_sbox xs) k 0 < 256
map_small [] p k = lit< tt
map_small (x ∷ xs) p zero = (sbox_of_inverse x (p zero)).0
map_small (x ∷ xs) p (suc k) = map_small xs (λ j. p (suc j)) k

map_back : (xs : List ℕ) → AreBytes xs → (k : ℕ) → k < length xs → sbox (get_or (map inverse_sbox xs) k 0) ≡ get_or xs k 0
map_back [] p k h = absurd (omega arith)
map_back (x ∷ xs) p zero h = (sbox_of_inverse x (p zero)).1
map_back (x ∷ xs) p (suc k) h = map_back xs (λ j. p (suc j)) k (omega arith)

pub xor_bytes_cancel : (xs ks : List ℕ) → length xs ≤ length ks → xor_bytes (xor_bytes xs ks) ks ≡ xs
xor_bytes_cancel [] ks h = refl
xor_bytes_cancel (x ∷ xs) [] h = absurd (omega arith)
xor_bytes_cancel (x ∷ xs) (k ∷ ks) h = ap₂ (λ (y : ℕ) (ys : List ℕ). y ∷ ys) (xor_cancel x k) (xor_bytes_cancel xs ks (omega arith))

pub length-xor_bytes : (xs ks : List ℕ) → length xs ≤ length ks → length (xor_bytes xs ks) ≡ length xs
length-xor_bytes [] ks h = refl
length-xor_bytes (x ∷ xs) [] h = absurd (omega arith)
length-xor_bytes (x ∷ xs) (k ∷ ks) h = ap suc (length-xor_bytes xs ks (omega arith))

-- ---- blocks

-- the 16 bytes of a block
abbrev pub sixteen : (ℕ → ℕ) → List ℕ
sixteen f = f 0 ∷ f 1 ∷ f 2 ∷ f 3 ∷ f 4 ∷ f 5 ∷ f 6 ∷ f 7 ∷ f 8 ∷ f 9 ∷ f 10 ∷ f 11 ∷ f 12 ∷ f 13 ∷ f 14 ∷ f 15 ∷ []

pub sixteen_is : (xs : List ℕ) → length xs ≡ 16 → sixteen (λ k. get_or xs k 0) ≡ xs
sixteen_is (x0 ∷ x1 ∷ x2 ∷ x3 ∷ x4 ∷ x5 ∷ x6 ∷ x7 ∷ x8 ∷ x9 ∷ x10 ∷ x11 ∷ x12 ∷ x13 ∷ x14 ∷ x15 ∷ []) h = refl
sixteen_is _ h = absurd (omega arith)

pub same_sixteen : (f g : ℕ → ℕ) → ((k : ℕ) → k < 16 → f k ≡ g k) → sixteen f ≡ sixteen g
same_sixteen f g e =
    let e0 = e 0 (lit< tt) in
    let e1 = e 1 (lit< tt) in
    let e2 = e 2 (lit< tt) in
    let e3 = e 3 (lit< tt) in
    let e4 = e 4 (lit< tt) in
    let e5 = e 5 (lit< tt) in
    let e6 = e 6 (lit< tt) in
    let e7 = e 7 (lit< tt) in
    let e8 = e 8 (lit< tt) in
    let e9 = e 9 (lit< tt) in
    let e10 = e 10 (lit< tt) in
    let e11 = e 11 (lit< tt) in
    let e12 = e 12 (lit< tt) in
    let e13 = e 13 (lit< tt) in
    let e14 = e 14 (lit< tt) in
    let e15 = e 15 (lit< tt) in
    cc

pub sixteen_small : (f : ℕ → ℕ) → ((k : ℕ) → f k < 256) → AreBytes (sixteen f)
sixteen_small f e =
    let a = f 0 ∷ f 1 ∷ f 2 ∷ f 3 ∷ [] in
    let b = f 4 ∷ f 5 ∷ f 6 ∷ f 7 ∷ [] in
    let c = f 8 ∷ f 9 ∷ f 10 ∷ f 11 ∷ [] in
    let d = f 12 ∷ f 13 ∷ f 14 ∷ f 15 ∷ [] in
    append_small (a ++ b ++ c) d (append_small (a ++ b) c
    (append_small a b (four_small (f 0) (f 1) (f 2) (f 3) (e 0) (e 1) (e 2) (e 3)) (four_small (f 4) (f 5) (f 6) (f 7) (e 4) (e 5) (e 6) (e 7)))
    (four_small (f 8) (f 9) (f 10) (f 11) (e 8) (e 9) (e 10) (e 11)))
    (four_small (f 12) (f 13) (f 14) (f 15) (e 12) (e 13) (e 14) (e 15))

-- ---- one round

abbrev pub back : List ℕ → List ℕ
back s = inverse_shift_rows (inverse_sub_bytes s)

abbrev back_places : List ℕ
back_places = 0 ∷ 13 ∷ 10 ∷ 7 ∷ 4 ∷ 1 ∷ 14 ∷ 11 ∷ 8 ∷ 5 ∷ 2 ∷ 15 ∷ 12 ∷ 9 ∷ 6 ∷ 3 ∷ []

back_small : (s : List ℕ) → AreBytes s → AreBytes (back s)
back_small s p = sixteen_small (λ k. get_or (map inverse_sbox s) (get_or back_places k 0) 0) (λ k. map_small s p (get_or back_places k 0))

-- SUBBYTES and SHIFTROWS take the inverse steps back
forth : (s : List ℕ) → AreBytes s → length s ≡ 16 → shift_rows (sub_bytes (back s)) ≡ s
forth s p h =
    same_sixteen (λ k. sbox (get_or (map inverse_sbox s) k 0)) (λ k. get_or s k 0) (λ k low. map_back s p k (omega arith))
    ∙ sixteen_is s h

inverse_mix_small : (s : List ℕ) → AreBytes s → AreBytes (inverse_mix_columns s)
inverse_mix_small s p =
    let col : ℕ → ℕ → ℕ → ℕ → List ℕ = λ i j k l. inverse_mix_bytes (get_or s i 0 ∷ get_or s j 0 ∷ get_or s k 0 ∷ get_or s l 0 ∷ []) in
    let column : (i j k l : ℕ) → AreBytes (col i j k l) =
    λ i j k l. four_small _ _ _ _
    (row_small 14 11 13 9 _ _ _ _ (p i) (p j) (p k) (p l)) (row_small 9 14 11 13 _ _ _ _ (p i) (p j) (p k) (p l))
    (row_small 13 9 14 11 _ _ _ _ (p i) (p j) (p k) (p l)) (row_small 11 13 9 14 _ _ _ _ (p i) (p j) (p k) (p l)) in
    let a = col 0 1 2 3 in
    let b = col 4 5 6 7 in
    let c = col 8 9 10 11 in
    let d = col 12 13 14 15 in
    append_small (a ++ b ++ c) d (append_small (a ++ b) c (append_small a b (column 0 1 2 3) (column 4 5 6 7)) (column 8 9 10 11)) (column 12 13 14 15)

-- MIXCOLUMNS takes INVMIXCOLUMNS back, with a key added
mix_back : (u k : List ℕ) → AreBytes u → AreBytes k
    → mix_columns (xor_bytes (inverse_mix_columns u) (inverse_mix_columns k))
    ≡ xor_bytes (sixteen (λ i. get_or u i 0)) (sixteen (λ i. get_or k i 0))
mix_back u k p q =
    let glue : List ℕ → List ℕ → List ℕ = λ x y. x ++ y in
    ap₂ glue (ap₂ glue (ap₂ glue
    (mix_sum _ _ _ _ _ _ _ _ (p 0) (p 1) (p 2) (p 3) (q 0) (q 1) (q 2) (q 3))
    (mix_sum _ _ _ _ _ _ _ _ (p 4) (p 5) (p 6) (p 7) (q 4) (q 5) (q 6) (q 7)))
    (mix_sum _ _ _ _ _ _ _ _ (p 8) (p 9) (p 10) (p 11) (q 8) (q 9) (q 10) (q 11)))
    (mix_sum _ _ _ _ _ _ _ _ (p 12) (p 13) (p 14) (p 15) (q 12) (q 13) (q 14) (q 15))

-- ---- the keys

inner_key : (keys w : List ℕ) → AreInverseKeys keys w → (r : ℕ) → 0 < r → r < 14
    → four_words w (4 * r) ≡ inverse_mix_columns (four_words keys (4 * r))
inner_key keys w h r low high =
    let glue : List ℕ → List ℕ → List ℕ = λ x y. x ++ y in
    ap₂ glue (ap₂ glue (ap₂ glue
    (h.inner (4 * r) (omega arith) (omega arith)) (h.inner (4 * r + 1) (omega arith) (omega arith)))
    (h.inner (4 * r + 2) (omega arith) (omega arith))) (h.inner (4 * r + 3) (omega arith) (omega arith))

same_key : (keys w : List ℕ) (i : ℕ) → get_or w i 0 ≡ get_or keys i 0 → get_or w (i + 1) 0 ≡ get_or keys (i + 1) 0
    → get_or w (i + 2) 0 ≡ get_or keys (i + 2) 0 → get_or w (i + 3) 0 ≡ get_or keys (i + 3) 0 → four_words w i ≡ four_words keys i
same_key keys w i p q r s =
    let glue : List ℕ → List ℕ → List ℕ = λ x y. x ++ y in
    ap₂ glue (ap₂ glue (ap₂ glue (ap (to_be_bytes w32) p) (ap (to_be_bytes w32) q)) (ap (to_be_bytes w32) r)) (ap (to_be_bytes w32) s)

module _ (keys w c : List ℕ) (h : AreInverseKeys keys w) (small : AreBytes c) (long : length c ≡ 16) where
  first_key : four_words w 0 ≡ four_words keys 0
  first_key = same_key keys w 0 (h.first 0 (lit< tt)) (h.first 1 (lit< tt)) (h.first 2 (lit< tt)) (h.first 3 (lit< tt))

  last_key : four_words w 56 ≡ four_words keys 56
  last_key = same_key keys w 56 (h.last 56 (lit< tt) (lit< tt)) (h.last 57 (lit< tt) (lit< tt)) (h.last 58 (lit< tt) (lit< tt)) (h.last 59 (lit< tt) (lit< tt))

  rounds_small : (m : ℕ) → AreBytes (inverse_rounds w c m)
  unfolding inverse_rounds inverse_round
  rounds_small zero = xor_bytes_small c (four_words w 56) small (words_small w 56)
  rounds_small (suc m) =
      xor_bytes_small (inverse_mix_columns (back (inverse_rounds w c m))) (four_words w (4 * (13 - m)))
      (inverse_mix_small (back (inverse_rounds w c m)) (back_small (inverse_rounds w c m) (rounds_small m))) (words_small w (4 * (13 - m)))

  rounds_length : (m : ℕ) → length (inverse_rounds w c m) ≡ 16
  unfolding inverse_rounds inverse_round
  rounds_length zero = length-xor_bytes c (four_words w 56) (omega (arith, long)) ∙ long
  rounds_length (suc m) = refl

  follow : (n m : ℕ) → n + m ≡ 13 → rounds keys (inverse_cipher w c) n ≡ back (inverse_rounds w c m)
  unfolding rounds round inverse_round inverse_rounds inverse_cipher
  follow zero m e =
      let at : 13 ≡ m = omega arith in
      ap (λ (k : List ℕ). xor_bytes (xor_bytes (back (inverse_rounds w c 13)) k) (four_words keys 0)) first_key
      ∙ xor_bytes_cancel (back (inverse_rounds w c 13)) (four_words keys 0) (omega arith)
      ∙ ap (λ (j : ℕ). back (inverse_rounds w c j)) at
  follow (suc n) m e =
      let before = follow n (suc m) (omega arith) in
      let u = back (inverse_rounds w c m) in
      let k = four_words keys (4 * (n + 1)) in
      let place : 13 - m ≡ n + 1 = omega arith in
      let key : four_words w (4 * (13 - m)) ≡ inverse_mix_columns k =
      ap (λ (r : ℕ). four_words w (4 * r)) place ∙ inner_key keys w h (n + 1) (omega arith) (omega arith) in
      ap (λ (x : List ℕ). add_round_key keys (round x) (n + 1)) before
      ∙ ap (λ (x : List ℕ). xor_bytes (mix_columns x) k) (forth (inverse_rounds w c (suc m)) (rounds_small (suc m)) refl)
      ∙ ap (λ (x : List ℕ). xor_bytes (mix_columns (xor_bytes (inverse_mix_columns u) x)) k) key
      ∙ ap (λ (x : List ℕ). xor_bytes x k) (mix_back u k (back_small (inverse_rounds w c m) (rounds_small m)) (words_small keys (4 * (n + 1))))
      ∙ xor_bytes_cancel u k (omega arith)

  pub cipher_of_inverse : cipher keys (inverse_cipher w c) ≡ c
  unfolding cipher inverse_rounds
  cipher_of_inverse =
      ap (λ (x : List ℕ). add_round_key keys (shift_rows (sub_bytes x)) 14) (follow 13 0 refl)
      ∙ ap (λ (x : List ℕ). add_round_key keys x 14) (forth (inverse_rounds w c 0) (rounds_small 0) (rounds_length 0))
      ∙ ap (λ (k : List ℕ). xor_bytes (xor_bytes c k) (four_words keys 56)) last_key
      ∙ xor_bytes_cancel c (four_words keys 56) (omega (arith, long))

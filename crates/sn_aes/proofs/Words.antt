-- The bytes of words under exclusive or, and rounds on words.
use Rattle.std.proofs.Common.{◌≡◌, ℕ, suc, ◌+◌, ◌-◌, ◌/◌, ◌%◌, ◌^◌, List, [], ◌∷◌, ◌++◌, bit_xor, ap, ap₂, ◌∙◌, add-one}
use Rattle.std.proofs.lemmas.Nat.{xor_mod, xor_shr}
use Rattle.std.specs.Int.Bits.{xor_zero_l, xor_zero_r}
use Rattle.std.specs.Int.{w32, to_be_bytes}
use Rattle.sn_aes.specs.Field.{product}
use Rattle.sn_aes.specs.Inverse.{inverse_mix_column, inverse_round, inverse_rounds}
use Rattle.sn_aes.specs.Cipher.{sbox, mix_column, xor_bytes, four_words, round, rounds, add_round_key}

xor_byte : (k x y : ℕ) → bit_xor x y / 2 ^ k % 2 ^ 8 ≡ bit_xor (x / 2 ^ k % 2 ^ 8) (y / 2 ^ k % 2 ^ 8)
xor_byte k x y = rw (xor_shr x y k) (xor_mod (x / 2 ^ k) (y / 2 ^ k) 8)

same_four : {a b c d x y z w : ℕ} → a ≡ x → b ≡ y → c ≡ z → d ≡ w → a ∷ b ∷ c ∷ d ∷ [] ≡ x ∷ y ∷ z ∷ w ∷ []
same_four p q r s = cc

pub bytes_xor : (x y : ℕ) → to_be_bytes w32 (bit_xor x y) ≡ xor_bytes (to_be_bytes w32 x) (to_be_bytes w32 y)
bytes_xor x y = same_four (xor_byte 24 x y) (xor_byte 16 x y) (xor_byte 8 x y) (xor_mod x y 8)

pub column_bytes : (a b c d t u v w key : ℕ)
    → to_be_bytes w32 t ≡ product 2 (sbox a) ∷ sbox a ∷ sbox a ∷ product 3 (sbox a) ∷ []
    → to_be_bytes w32 u ≡ product 3 (sbox b) ∷ product 2 (sbox b) ∷ sbox b ∷ sbox b ∷ []
    → to_be_bytes w32 v ≡ sbox c ∷ product 3 (sbox c) ∷ product 2 (sbox c) ∷ sbox c ∷ []
    → to_be_bytes w32 w ≡ sbox d ∷ sbox d ∷ product 3 (sbox d) ∷ product 2 (sbox d) ∷ []
    → to_be_bytes w32 (bit_xor (bit_xor (bit_xor (bit_xor t u) v) w) key)
    ≡ xor_bytes (mix_column (sbox a) (sbox b) (sbox c) (sbox d)) (to_be_bytes w32 key)
column_bytes a b c d t u v w key p q r s =
    let two = bytes_xor t u ∙ ap₂ xor_bytes p q in
    let three = bytes_xor (bit_xor t u) v ∙ ap₂ xor_bytes two r in
    let four = bytes_xor (bit_xor (bit_xor t u) v) w ∙ ap₂ xor_bytes three s in
    bytes_xor (bit_xor (bit_xor (bit_xor t u) v) w) key ∙ ap (λ l. xor_bytes l (to_be_bytes w32 key)) four

-- four words by their bytes
pub same_words : (a b c d : ℕ) {p q r s : List ℕ} → to_be_bytes w32 a ≡ p → to_be_bytes w32 b ≡ q → to_be_bytes w32 c ≡ r → to_be_bytes w32 d ≡ s
    → four_words (a ∷ b ∷ c ∷ d ∷ []) 0 ≡ p ++ q ++ r ++ s
same_words a b c d e f g h =
    let join : List ℕ → List ℕ → List ℕ = λ x y. x ++ y in
    ap₂ join (ap₂ join (ap₂ join e f) g) h

-- one more round
pub rounds_more : (w b s r : List ℕ) (n m : ℕ) → m ≡ n + 1 → s ≡ rounds w b n → r ≡ add_round_key w (round s) m → r ≡ rounds w b m
unfolding rounds
rounds_more w b s r n m e p q =
    let last : m ≡ suc n = e ∙ add-one n in
    rw last (rw (p, e) at q)

-- one more round of the inverse cipher
pub inverse_rounds_more : (w b s r : List ℕ) (n m k : ℕ) → m ≡ n + 1 → k ≡ 13 - n → s ≡ inverse_rounds w b n
    → r ≡ add_round_key w (inverse_round s) k → r ≡ inverse_rounds w b m
unfolding inverse_rounds
inverse_rounds_more w b s r n m k e f p q =
    let last : m ≡ suc n = e ∙ add-one n in
    rw last (rw (p, f) at q)

-- four words that add up, and a key
pub four_bytes : (t u v w : ℕ) {a b c d : List ℕ} → to_be_bytes w32 t ≡ a → to_be_bytes w32 u ≡ b → to_be_bytes w32 v ≡ c → to_be_bytes w32 w ≡ d
    → to_be_bytes w32 (bit_xor (bit_xor (bit_xor t u) v) w) ≡ xor_bytes (xor_bytes (xor_bytes a b) c) d
four_bytes t u v w p q r s =
    let two = bytes_xor t u ∙ ap₂ xor_bytes p q in
    let three = bytes_xor (bit_xor t u) v ∙ ap₂ xor_bytes two r in
    bytes_xor (bit_xor (bit_xor t u) v) w ∙ ap₂ xor_bytes three s

pub inverse_column_bytes : (a b c d t u v w key : ℕ)
    → to_be_bytes w32 t ≡ product 14 a ∷ product 9 a ∷ product 13 a ∷ product 11 a ∷ []
    → to_be_bytes w32 u ≡ product 11 b ∷ product 14 b ∷ product 9 b ∷ product 13 b ∷ []
    → to_be_bytes w32 v ≡ product 13 c ∷ product 11 c ∷ product 14 c ∷ product 9 c ∷ []
    → to_be_bytes w32 w ≡ product 9 d ∷ product 13 d ∷ product 11 d ∷ product 14 d ∷ []
    → to_be_bytes w32 (bit_xor (bit_xor (bit_xor (bit_xor t u) v) w) key)
    ≡ xor_bytes (inverse_mix_column a b c d) (to_be_bytes w32 key)
inverse_column_bytes a b c d t u v w key p q r s =
    bytes_xor (bit_xor (bit_xor (bit_xor t u) v) w) key ∙ ap (λ l. xor_bytes l (to_be_bytes w32 key)) (four_bytes t u v w p q r s)

-- a word of each row, and a key
pub last_column_bytes : (a b c d t u v w key : ℕ)
    → to_be_bytes w32 t ≡ a ∷ 0 ∷ 0 ∷ 0 ∷ []
    → to_be_bytes w32 u ≡ 0 ∷ b ∷ 0 ∷ 0 ∷ []
    → to_be_bytes w32 v ≡ 0 ∷ 0 ∷ c ∷ 0 ∷ []
    → to_be_bytes w32 w ≡ 0 ∷ 0 ∷ 0 ∷ d ∷ []
    → to_be_bytes w32 (bit_xor (bit_xor (bit_xor (bit_xor t u) v) w) key) ≡ xor_bytes (a ∷ b ∷ c ∷ d ∷ []) (to_be_bytes w32 key)
last_column_bytes a b c d t u v w key p q r s =
    let first : bit_xor (bit_xor (bit_xor a 0) 0) 0 ≡ a = simp xor_zero_r in
    let second : bit_xor (bit_xor (bit_xor 0 b) 0) 0 ≡ b = simp (xor_zero_l, xor_zero_r) in
    let third : bit_xor (bit_xor (bit_xor 0 0) c) 0 ≡ c = simp (xor_zero_l, xor_zero_r) in
    let fourth : bit_xor (bit_xor (bit_xor 0 0) 0) d ≡ d = simp xor_zero_l in
    bytes_xor (bit_xor (bit_xor (bit_xor t u) v) w) key
    ∙ ap (λ l. xor_bytes l (to_be_bytes w32 key)) (four_bytes t u v w p q r s ∙ same_four first second third fourth)

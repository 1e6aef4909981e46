-- The inverse cipher, in the order of FIPS 197, 5.3.5. No public contract speaks of it.
use Rattle.std.specs.Prelude.{◌≡◌, ℕ, zero, suc, ◌+◌, ◌-◌, ◌*◌, ◌%◌, ◌^◌, ◌<◌, List, [], ◌∷◌, ◌++◌, map, bit_xor, slice_index}
use Rattle.std.specs.Int.{w32, bit_at, to_be_bytes}
use Rattle.sn_aes.specs.Field.{inverse, product}
use Rattle.sn_aes.specs.Cipher.{add_round_key}

-- the number whose lowest n bits are those of the inverse affine transformation of b
abbrev pub inverse_affine_bits : ℕ → ℕ → ℕ
inverse_affine_bits b zero = 0
inverse_affine_bits b (suc n) = inverse_affine_bits b n
    + (bit_at b ((n + 2) % 8) + bit_at b ((n + 5) % 8) + bit_at b ((n + 7) % 8) + bit_at 0x05 n) % 2 * 2 ^ n

-- INVSBOX (5.3.2)
unfoldable pub inverse_sbox : ℕ → ℕ
inverse_sbox b = inverse (inverse_affine_bits b 8)

-- INVSUBBYTES (5.3.2)
abbrev pub inverse_sub_bytes : List ℕ → List ℕ
inverse_sub_bytes s = map inverse_sbox s

-- INVSHIFTROWS: row r, moved r places to the right (5.3.1)
abbrev pub inverse_shift_rows : List ℕ → List ℕ
inverse_shift_rows s = map (slice_index s) (0 ∷ 13 ∷ 10 ∷ 7 ∷ 4 ∷ 1 ∷ 14 ∷ 11 ∷ 8 ∷ 5 ∷ 2 ∷ 15 ∷ 12 ∷ 9 ∷ 6 ∷ 3 ∷ [])

-- the column of a, b, c and d, multiplied by the inverse matrix (5.3.3)
abbrev pub inverse_mix_column : ℕ → ℕ → ℕ → ℕ → List ℕ
inverse_mix_column a b c d =
    bit_xor (bit_xor (bit_xor (product 14 a) (product 11 b)) (product 13 c)) (product 9 d)
    ∷ bit_xor (bit_xor (bit_xor (product 9 a) (product 14 b)) (product 11 c)) (product 13 d)
    ∷ bit_xor (bit_xor (bit_xor (product 13 a) (product 9 b)) (product 14 c)) (product 11 d)
    ∷ bit_xor (bit_xor (bit_xor (product 11 a) (product 13 b)) (product 9 c)) (product 14 d) ∷ []

-- INVMIXCOLUMNS (5.3.3)
abbrev pub inverse_mix_columns : List ℕ → List ℕ
inverse_mix_columns s =
    inverse_mix_column (slice_index s 0) (slice_index s 1) (slice_index s 2) (slice_index s 3)
    ++ inverse_mix_column (slice_index s 4) (slice_index s 5) (slice_index s 6) (slice_index s 7)
    ++ inverse_mix_column (slice_index s 8) (slice_index s 9) (slice_index s 10) (slice_index s 11)
    ++ inverse_mix_column (slice_index s 12) (slice_index s 13) (slice_index s 14) (slice_index s 15)

-- INVMIXCOLUMNS of one column of bytes
abbrev pub inverse_mix_bytes : List ℕ → List ℕ
inverse_mix_bytes b = inverse_mix_column (slice_index b 0) (slice_index b 1) (slice_index b 2) (slice_index b 3)

-- w has the words of the keys: unchanged in the first and the last round, and else through INVMIXCOLUMNS (5.3.5)
pub record AreInverseKeys (keys w : List ℕ) : Type 0 where
  pub first : (i : ℕ) → i < 4 → slice_index w i ≡ slice_index keys i
  pub inner : (i : ℕ) → 4 < i + 1 → i < 56
      → to_be_bytes w32 (slice_index w i) ≡ inverse_mix_bytes (to_be_bytes w32 (slice_index keys i))
  pub last : (i : ℕ) → 56 < i + 1 → i < 60 → slice_index w i ≡ slice_index keys i

-- a round but for its key
unfoldable pub inverse_round : List ℕ → List ℕ
inverse_round s = inverse_mix_columns (inverse_shift_rows (inverse_sub_bytes s))

-- the state after n rounds of the inverse cipher
unfoldable pub inverse_rounds : List ℕ → List ℕ → ℕ → List ℕ
inverse_rounds w s zero = add_round_key w s 14
inverse_rounds w s (suc n) = add_round_key w (inverse_round (inverse_rounds w s n)) (13 - n)

-- EQINVCIPHER (5.3.5)
unfoldable pub inverse_cipher : List ℕ → List ℕ → List ℕ
inverse_cipher w s = add_round_key w (inverse_shift_rows (inverse_sub_bytes (inverse_rounds w s 13))) 0

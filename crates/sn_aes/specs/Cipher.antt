-- AES-256 (FIPS 197) on lists of bytes. A block and a state are 16 bytes, column by column: the byte
-- in row r and column c is at place r + 4 * c (3.4). A word is a number below 2 ^ 32, whose bytes
-- are those of FIPS 197's word, high first. Section numbers are the standard's.
use Rattle.std.specs.Prelude.{◌≡◌, ◌<◌, length, ℕ, zero, suc, ◌+◌, ◌-◌, ◌*◌, ◌/◌, ◌%◌, ◌^◌, ◌==◌, List, [], ◌∷◌, ◌++◌, map, bit_xor, slice_index, if◌then◌else◌}
use Rattle.std.specs.Int.{w32, bit_at, rotate_left, from_be_bytes, to_be_bytes}
use Rattle.sn_aes.specs.Field.{inverse, product}

-- bit i of the affine transformation of b, whose constant is 0110 0011 (5.1.1)
abbrev pub affine_bit : ℕ → ℕ → ℕ
affine_bit b i =
    (bit_at b i + bit_at b ((i + 4) % 8) + bit_at b ((i + 5) % 8) + bit_at b ((i + 6) % 8)
    + bit_at b ((i + 7) % 8) + bit_at 0x63 i) % 2

-- the number whose lowest n bits are those of the affine transformation of b
abbrev pub affine_bits : ℕ → ℕ → ℕ
affine_bits b zero = 0
affine_bits b (suc n) = affine_bits b n + affine_bit b n * 2 ^ n

-- SBOX: the inverse, and then the affine transformation (5.1.1)
unfoldable pub sbox : ℕ → ℕ
sbox b = affine_bits (inverse b) 8

-- 16 bytes
abbrev pub IsBlock : List ℕ → Type 0
IsBlock s = (length s ≡ 16) × ((k : ℕ) → slice_index s k < 256)

-- SUBBYTES (5.1.1)
abbrev pub sub_bytes : List ℕ → List ℕ
sub_bytes s = map sbox s

-- SHIFTROWS: row r, moved r places to the left (5.1.2)
abbrev pub shift_rows : List ℕ → List ℕ
shift_rows s = map (slice_index s) (0 ∷ 5 ∷ 10 ∷ 15 ∷ 4 ∷ 9 ∷ 14 ∷ 3 ∷ 8 ∷ 13 ∷ 2 ∷ 7 ∷ 12 ∷ 1 ∷ 6 ∷ 11 ∷ [])

-- the column of a, b, c and d, multiplied by the fixed matrix (5.1.3)
abbrev pub mix_column : ℕ → ℕ → ℕ → ℕ → List ℕ
mix_column a b c d =
    bit_xor (bit_xor (bit_xor (product 2 a) (product 3 b)) c) d
    ∷ bit_xor (bit_xor (bit_xor a (product 2 b)) (product 3 c)) d
    ∷ bit_xor (bit_xor (bit_xor a b) (product 2 c)) (product 3 d)
    ∷ bit_xor (bit_xor (bit_xor (product 3 a) b) c) (product 2 d) ∷ []

-- MIXCOLUMNS (5.1.3)
abbrev pub mix_columns : List ℕ → List ℕ
mix_columns s =
    mix_column (slice_index s 0) (slice_index s 1) (slice_index s 2) (slice_index s 3)
    ++ mix_column (slice_index s 4) (slice_index s 5) (slice_index s 6) (slice_index s 7)
    ++ mix_column (slice_index s 8) (slice_index s 9) (slice_index s 10) (slice_index s 11)
    ++ mix_column (slice_index s 12) (slice_index s 13) (slice_index s 14) (slice_index s 15)

-- the exclusive or of two lists of bytes, byte by byte
abbrev pub xor_bytes : List ℕ → List ℕ → List ℕ
xor_bytes [] _ = []
xor_bytes (x ∷ xs) [] = []
xor_bytes (x ∷ xs) (y ∷ ys) = bit_xor x y ∷ xor_bytes xs ys

-- the bytes of the words of a list, four from place i on
abbrev pub four_words : List ℕ → ℕ → List ℕ
four_words w i =
    to_be_bytes w32 (slice_index w i) ++ to_be_bytes w32 (slice_index w (i + 1))
    ++ to_be_bytes w32 (slice_index w (i + 2)) ++ to_be_bytes w32 (slice_index w (i + 3))

-- SUBWORD: the S-box on each byte of a word (5.2)
abbrev pub sub_word : ℕ → ℕ
sub_word w = from_be_bytes w32 (map sbox (to_be_bytes w32 w))

-- what is added to the word 8 before word i, from the word before (5.2)
abbrev pub added_word : ℕ → ℕ → ℕ
added_word last i =
    if i % 8 == 0 then bit_xor (sub_word (rotate_left w32 last 8)) (2 ^ (i / 8 - 1) * 2 ^ 24)
    else if i % 8 == 4 then sub_word last
    else last

-- the first n words of a key (5.2)
unfoldable pub key_words : List ℕ → ℕ → List ℕ
key_words key zero = []
key_words key (suc n) = key_words key n ++ from_be_bytes w32
    (slice_index key (4 * n) ∷ slice_index key (4 * n + 1) ∷ slice_index key (4 * n + 2) ∷ slice_index key (4 * n + 3) ∷ []) ∷ []

-- KEYEXPANSION: the 8 words of a key and n more (5.2)
unfoldable pub expanded : List ℕ → ℕ → List ℕ
expanded key zero = key_words key 8
expanded key (suc n) = expanded key n
    ++ bit_xor (slice_index (expanded key n) n) (added_word (slice_index (expanded key n) (n + 7)) (n + 8)) ∷ []

-- ADDROUNDKEY, with the four words of round r (5.1.4)
abbrev pub add_round_key : List ℕ → List ℕ → ℕ → List ℕ
add_round_key w s r = xor_bytes s (four_words w (4 * r))

-- a round but for its key (5.1)
unfoldable pub round : List ℕ → List ℕ
round s = mix_columns (shift_rows (sub_bytes s))

-- the state after n rounds, with the words w
unfoldable pub rounds : List ℕ → List ℕ → ℕ → List ℕ
rounds w s zero = add_round_key w s 0
rounds w s (suc n) = add_round_key w (round (rounds w s n)) (n + 1)

-- CIPHER: 14 rounds, the last without MIXCOLUMNS (5.1)
unfoldable pub cipher : List ℕ → List ℕ → List ℕ
cipher w s = add_round_key w (shift_rows (sub_bytes (rounds w s 13))) 14

-- a block under a key of 32 bytes (5.1, 5.2)
unfoldable pub aes256 : List ℕ → List ℕ → List ℕ
aes256 key block = cipher (expanded key 52) block

-- AES-256 in CBC mode (NIST SP 800-38A, 6.2) with the padding of RFC 5652, 6.3, on lists of bytes.
use Rattle.std.specs.Prelude.{◌≡◌, ℕ, zero, suc, ◌-◌, ◌*◌, ◌%◌, ◌<◌, ◌≤◌, List, ◌++◌, length, take, drop, replicate, slice_index}
use Rattle.sn_aes.specs.Cipher.{aes256, xor_bytes}

-- each is a byte
abbrev pub AreBytes : List ℕ → Type 0
AreBytes bytes = (k : ℕ) → slice_index bytes k < 256

-- how many bytes are added, and the value of each: 16 minus the length modulo 16, from 1 to 16
abbrev pub padding_count : List ℕ → ℕ
padding_count plain = 16 - length plain % 16

-- the plain text with its padding, which falls into blocks of 16 bytes
abbrev pub padded : List ℕ → List ℕ
padded plain = plain ++ replicate (padding_count plain) (padding_count plain)

-- block n of a text, from 0
abbrev pub block_of : List ℕ → ℕ → List ℕ
block_of text n = take 16 (drop (16 * n) text)

-- the ciphertext's block before block n, which is the initialization vector before the first
abbrev pub block_before : List ℕ → List ℕ → ℕ → List ℕ
block_before iv bytes zero = iv
block_before iv bytes (suc n) = block_of bytes n

-- each block of the ciphertext is the cipher's of the text's block xor the ciphertext's block before (6.2)
pub record IsChained (key iv text bytes : List ℕ) : Type 0 where
  pub whole : length text % 16 ≡ 0
  pub same_length : length bytes ≡ length text
  pub blocks : (n : ℕ) → 16 * n < length text
      → block_of bytes n ≡ aes256 key (xor_bytes (block_of text n) (block_before iv bytes n))

-- the bytes are the ciphertext of the plain text
abbrev pub IsCbc : List ℕ → List ℕ → List ℕ → List ℕ → Type 0
IsCbc key iv plain bytes = IsChained key iv (padded plain) bytes

-- a ciphertext has a block or more, and whole ones alone
pub record IsWhole (bytes : List ℕ) : Type 0 where
  pub some : 0 < length bytes
  pub whole : length bytes % 16 ≡ 0

-- the last byte n of a text is 1 to 16, and so are its last n bytes
pub record IsPadded (text : List ℕ) (n : ℕ) : Type 0 where
  pub some : 1 ≤ n
  pub block_at_most : n ≤ 16
  pub fits : n ≤ length text
  pub same : drop (length text - n) text ≡ replicate n n

-- HMAC (RFC 2104) over SHA-256 and SHA-512, on lists of bytes.
use Rattle.std.specs.Prelude.{ℕ, ◌-◌, List, ◌++◌, map, length, replicate, nat_lt, bit_xor, if◌then◌else◌}
use Rattle.sha2.specs.Sha256.{sha256}
use Rattle.sha2.specs.Sha512.{sha512}

-- K filled to one block (RFC 2104, 2 and 3): the key, or its hash where it is longer than a block,
-- and zeros up to the size of a block
abbrev pub block_key : (List ℕ → List ℕ) → ℕ → List ℕ → List ℕ
block_key h size key =
    let k = (if nat_lt size (length key) then h key else key) in
    k ++ replicate (size - length k) 0

-- K XOR ipad for the byte 0x36, K XOR opad for the byte 0x5c (RFC 2104, 2)
abbrev pub masked : ℕ → List ℕ → List ℕ
masked byte k = map (λ x. bit_xor x byte) k

-- H(K XOR opad, H(K XOR ipad, text)) (RFC 2104, 2), for the hash function h with blocks of this size
abbrev pub hmac : (List ℕ → List ℕ) → ℕ → List ℕ → List ℕ → List ℕ
hmac h size key text =
    let k = block_key h size key in
    h (masked 0x5c k ++ h (masked 0x36 k ++ text))

-- HMAC-SHA-256: its blocks have 64 bytes
unfoldable pub hmac_sha256 : List ℕ → List ℕ → List ℕ
hmac_sha256 key text = hmac sha256 64 key text

-- HMAC-SHA-512: its blocks have 128 bytes
unfoldable pub hmac_sha512 : List ℕ → List ℕ → List ℕ
hmac_sha512 key text = hmac sha512 128 key text

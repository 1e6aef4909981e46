-- PBKDF2 (RFC 8018, 5.2) with HMAC-SHA-512 as the pseudorandom function, on lists of bytes.
use Rattle.std.specs.Prelude.{ℕ, zero, suc, ◌+◌, ◌/◌, List, [], ◌∷◌, ◌++◌, take, replicate, bit_xor}
use Rattle.std.specs.Int.{w32, to_be_bytes}
use Rattle.sn_hmac.specs.Hmac.{hmac_sha512}

-- the exclusive or of two lists of bytes
abbrev pub xor_bytes : List ℕ → List ℕ → List ℕ
xor_bytes [] _ = []
xor_bytes (x ∷ xs) [] = []
xor_bytes (x ∷ xs) (y ∷ ys) = bit_xor x y ∷ xor_bytes xs ys

-- U_j of block i, for j from 1: U_1 is the HMAC of the salt and INT (i), i in four bytes with the
-- highest first, and each further one the HMAC of the one before
unfoldable pub iterate : List ℕ → List ℕ → ℕ → ℕ → List ℕ
iterate password salt i zero = salt ++ to_be_bytes w32 i
iterate password salt i (suc j) = hmac_sha512 password (iterate password salt i j)

-- F (P, S, c, i): U_1 xor U_2 xor ... xor U_c of block i
unfoldable pub key_block : List ℕ → List ℕ → ℕ → ℕ → List ℕ
key_block password salt zero i = replicate 64 0
key_block password salt (suc c) i = xor_bytes (key_block password salt c i) (iterate password salt i (suc c))

-- T_1 || T_2 || ... || T_l
abbrev pub key_blocks : List ℕ → List ℕ → ℕ → ℕ → List ℕ
key_blocks password salt cost zero = []
key_blocks password salt cost (suc l) = key_blocks password salt cost l ++ key_block password salt cost (suc l)

-- the derived key of this many bytes, whose blocks have 64 bytes
unfoldable pub pbkdf2 : List ℕ → List ℕ → ℕ → ℕ → List ℕ
pbkdf2 password salt cost length = take length (key_blocks password salt cost ((length + 63) / 64))

-- How the values of one block grow from iteration to iteration.
use Rattle.std.proofs.Common.{◌≡◌, ℕ, zero, suc, ◌+◌, ◌<◌, List, [], ◌∷◌, ◌++◌, length, take, drop, set, get_or, replicate, bit_xor, refl, sym, ap, add-one, arith}
use Rattle.std.specs.Int.{w32, to_be_bytes}
use Rattle.sn_hmac.specs.Hmac.{hmac_sha512}
use Rattle.sn_pbkdf.specs.Pbkdf.{xor_bytes, iterate, key_block}

-- one step of it, at the index itself
xor_next : (xs ys : List ℕ) (i : ℕ) → i < length xs → i < length ys
    → set (xor_bytes (take i xs) (take i ys) ++ drop i xs) i
    (bit_xor (get_or (xor_bytes (take i xs) (take i ys) ++ drop i xs) i 0) (get_or ys i 0))
    ≡ xor_bytes (take (suc i) xs) (take (suc i) ys) ++ drop (suc i) xs
xor_next [] ys i h k = absurd (omega arith)
xor_next (x ∷ xs) [] i h k = absurd (omega arith)
xor_next (x ∷ xs) (y ∷ ys) zero h k = refl
xor_next (x ∷ xs) (y ∷ ys) (suc i) h k =
    ap (λ (l : List ℕ). bit_xor x y ∷ l) (xor_next xs ys i (omega arith) (omega arith))

-- a loop that xors each byte of ys into that of xs
pub xor_more : (xs ys zs : List ℕ) (i : ℕ) → i < length xs → i < length ys
    → zs ≡ xor_bytes (take i xs) (take i ys) ++ drop i xs
    → set zs i (bit_xor (get_or zs i 0) (get_or ys i 0))
    ≡ xor_bytes (take (i + 1) xs) (take (i + 1) ys) ++ drop (i + 1) xs
xor_more xs ys zs i h k e = rw (e, add-one i) (xor_next xs ys i h k)

-- the exclusive or with zeros alone
xor_zeros : (xs : List ℕ) → xor_bytes (replicate (length xs) 0) xs ≡ xs
xor_zeros [] = refl
xor_zeros (x ∷ xs) = ap (λ (l : List ℕ). x ∷ l) (xor_zeros xs)

-- what each iterate is taken of
pub iterate_first : (password salt : List ℕ) (i : ℕ)
    → iterate password salt i 1 ≡ hmac_sha512 password (salt ++ to_be_bytes w32 i)
unfolding iterate
iterate_first password salt i = refl

pub iterate_more : (password salt : List ℕ) (i j : ℕ)
    → iterate password salt i (j + 1) ≡ hmac_sha512 password (iterate password salt i j)
unfolding iterate
iterate_more password salt i j = rw (add-one j) refl

-- the sum of the iterates, from the first on
pub key_block_first : (password salt : List ℕ) (i : ℕ) → length (iterate password salt i 1) ≡ 64
    → key_block password salt 1 i ≡ iterate password salt i 1
unfolding key_block
key_block_first password salt i whole =
    let zeros : replicate {A = ℕ} 64 0 ≡ replicate {A = ℕ} (length (iterate password salt i 1)) 0 =
    ap (λ (n : ℕ). replicate {A = ℕ} n 0) (sym whole) in
    rw zeros (xor_zeros (iterate password salt i 1))

pub key_block_more : (password salt : List ℕ) (i j : ℕ)
    → key_block password salt (j + 1) i ≡ xor_bytes (key_block password salt j i) (iterate password salt i (j + 1))
unfolding key_block
key_block_more password salt i j = rw (add-one j) refl

-- the steps of a loop over the iterates of a block
pub ruleset block_steps = (iterate_first, iterate_more, key_block_first, key_block_more)

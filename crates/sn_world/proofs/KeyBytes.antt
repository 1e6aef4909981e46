-- The server's password that a password gives has 32 bytes.
use Rattle.std.proofs.Common.{arith, ◌≡◌, ℕ, zero, suc, ◌<◌, List, [], ◌∷◌, ◌++◌, All, length, length-append, drop, take, bit_xor, refl, sym, ◌∙◌, subst}
use Rattle.std.specs.Int.{to_be_bytes, w64}
use Rattle.std.specs.Prelude.{slice_index}
use Rattle.std.proofs.lemmas.List.{length-take-le}
use Rattle.std.proofs.lemmas.List.Elements.{All-append, All-cons, All-drop, All-head, All-nil, All-replicate, All-tail, All-take}
use Rattle.std.proofs.lemmas.Nat.{xor_of_8}
use Rattle.sha2.proofs.Facts512.{length-sha512}
use Rattle.sha2.specs.Sha512.{digest_bytes, sha512}
use Rattle.sn_hmac.specs.Hmac.{hmac_sha512}
use Rattle.sn_keys.specs.Keys.{AreKeysOf, derived, salt, third}
use Rattle.sn_pbkdf.specs.Pbkdf.{iterate, key_block, pbkdf2, xor_bytes}
use Rattle.sn_string.specs.declared.params.KeySet.{KeySet}
use Rattle.sn_string.specs.declared.params.Params.{Params}
use Rattle.sn_sync.specs.Fits.{AreBytes}

abbrev IsByte : ℕ → Type 0
IsByte b = b < 256

-- ---- a digest

record AreAllBytes (xs : List ℕ) : Type 0 where
  all : All IsByte xs

no_bytes : AreAllBytes []
no_bytes = record { all = All-nil IsByte }

one_byte : {x : ℕ} {xs : List ℕ} → x < 256 → AreAllBytes xs → AreAllBytes (x ∷ xs)
one_byte {x} {xs} fits rest = record { all = All-cons IsByte x xs fits rest.all }

word_bytes : (n : ℕ) → AreAllBytes (to_be_bytes w64 n)
word_bytes n =
    one_byte (omega arith) (one_byte (omega arith) (one_byte (omega arith) (one_byte (omega arith)
    (one_byte (omega arith) (one_byte (omega arith) (one_byte (omega arith) (one_byte (omega arith) no_bytes)))))))

digest_fits : (h : List ℕ) (n : ℕ) → All IsByte (digest_bytes h n)
unfolding digest_bytes
digest_fits h zero = All-nil IsByte
digest_fits h (suc n) = All-append IsByte (digest_bytes h n) (to_be_bytes w64 (slice_index h n)) (digest_fits h n) (word_bytes (slice_index h n)).all

sha_fits : (m : List ℕ) → All IsByte (sha512 m)
unfolding sha512
sha_fits m = digest_fits _ 8

mac_length : (key text : List ℕ) → length (hmac_sha512 key text) ≡ 64
unfolding hmac_sha512
mac_length key text = length-sha512 _

mac_fits : (key text : List ℕ) → All IsByte (hmac_sha512 key text)
unfolding hmac_sha512
mac_fits key text = sha_fits _

-- ---- the exclusive or of two lists

xor_length : (xs ys : List ℕ) → length xs ≡ length ys → length (xor_bytes xs ys) ≡ length xs
xor_length [] ys same = refl
xor_length (x ∷ xs) [] same = absurd (omega (arith, same))
xor_length (x ∷ xs) (y ∷ ys) same = let rest = xor_length xs ys (omega (arith, same)) in omega (arith, rest)

xor_fits : (xs ys : List ℕ) → All IsByte xs → All IsByte ys → All IsByte (xor_bytes xs ys)
xor_fits [] ys h k = All-nil IsByte
xor_fits (x ∷ xs) [] h k = All-nil IsByte
xor_fits (x ∷ xs) (y ∷ ys) h k =
    All-cons IsByte (bit_xor x y) (xor_bytes xs ys) (xor_of_8 x y (All-head IsByte x xs h) (All-head IsByte y ys k))
    (xor_fits xs ys (All-tail IsByte x xs h) (All-tail IsByte y ys k))

-- ---- the blocks of a key

iterate_fits : (password text : List ℕ) (i j : ℕ) → AreBytes 64 (iterate password text i (suc j))
unfolding iterate
iterate_fits password text i j = (mac_length password (iterate password text i j), mac_fits password (iterate password text i j))

block_fits : (password text : List ℕ) (cost i : ℕ) → AreBytes 64 (key_block password text cost i)
unfolding key_block
block_fits password text zero i = (refl, All-replicate IsByte 64 0 (omega arith))
block_fits password text (suc c) i =
    let before = block_fits password text c i in
    let next = iterate_fits password text i c in (
      xor_length (key_block password text c i) (iterate password text i (suc c)) (before.0 ∙ sym next.0) ∙ before.0,
      xor_fits (key_block password text c i) (iterate password text i (suc c)) before.1 next.1,
    )

pair_fits : (first second : List ℕ) → AreBytes 64 first → AreBytes 64 second → AreBytes 96 (take 96 (first ++ second))
pair_fits first second one two =
    let both = length-append first second in (
      length-take-le 96 (first ++ second) (omega (arith, one.0, two.0, both)),
      All-take IsByte 96 (first ++ second) (All-append IsByte first second one.1 two.1),
    )

derived_fits : (password text : List ℕ) (cost : ℕ) → AreBytes 96 (pbkdf2 password text cost 96)
unfolding pbkdf2
derived_fits password text cost =
    pair_fits (key_block password text cost 1) (key_block password text cost 2) (block_fits password text cost 1) (block_fits password text cost 2)

-- ---- the first part of it

first_fits : (bytes : List ℕ) → AreBytes 96 bytes → AreBytes 32 (third 0 bytes)
first_fits bytes whole = (
  length-take-le 32 (drop 0 bytes) (omega (arith, whole.0)),
  All-take IsByte 32 (drop 0 bytes) (All-drop IsByte 0 bytes whole.1),
)

pub password_fits : (password : List ℕ) (p : Params) (set : KeySet) → AreKeysOf password p set → AreBytes 32 set.pw
password_fits password p set keys =
    subst (AreBytes 32) (sym keys.pw) (first_fits (derived password p) (derived_fits password (salt p) p.pw_cost))

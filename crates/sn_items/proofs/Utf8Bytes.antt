-- UTF-8 is bytes.
use Rattle.std.proofs.Common.{◌≡◌, ℕ, zero, suc, ◌+◌, ◌/◌, ◌%◌, ◌<◌, ◌≤◌, List, [], ◌∷◌, ◌++◌, Bool, true, false, refl, subst, arith, ⊎_elim}
use Rattle.std.specs.Prelude.{cond, ltb, ◌&&◌}
use Rattle.std.proofs.lemmas.Bool.{and_parts, ltb-true}
use Rattle.std.specs.Str.{IsUtf8}
use Rattle.sn_cbc.specs.Cbc.{AreBytes}
use lib.Utf8.{encode, encodes, scalar, scalars, scalar_cases}

none : AreBytes []
none k = omega arith

cons : (b : ℕ) (bs : List ℕ) → b < 256 → AreBytes bs → AreBytes (b ∷ bs)
cons b bs h hs zero = h
cons b bs h hs (suc k) = hs k

branch : (P : List ℕ → Type 0) (x : Bool) (a b : List ℕ) → (x ≡ true → P a) → (x ≡ false → P b) → P (cond x a b)
branch P true a b t f = t refl
branch P false a b t f = f refl

below : (c : ℕ) → scalar c ≡ true → c < 1114112
below c ok = ⊎_elim (λ h. omega (arith, h)) (λ h. h.1) (scalar_cases c ok)

small_next : (n : ℕ) (rest : List ℕ) → AreBytes rest → AreBytes ((128 + n % 64) ∷ rest)
small_next n rest r = cons (128 + n % 64) rest (omega arith) r

two : (c : ℕ) (rest : List ℕ) → c < 2048 → AreBytes rest → AreBytes ((192 + c / 64) ∷ (128 + c % 64) ∷ rest)
two c rest h r = cons (192 + c / 64) ((128 + c % 64) ∷ rest) (omega (arith, h)) (small_next c rest r)

three : (c : ℕ) (rest : List ℕ) → c < 65536 → AreBytes rest
    → AreBytes ((224 + c / 4096) ∷ (128 + c / 64 % 64) ∷ (128 + c % 64) ∷ rest)
three c rest h r =
    cons (224 + c / 4096) ((128 + c / 64 % 64) ∷ (128 + c % 64) ∷ rest) (omega (arith, h))
    (small_next (c / 64) ((128 + c % 64) ∷ rest) (small_next c rest r))

four : (c : ℕ) (rest : List ℕ) → c < 1114112 → AreBytes rest
    → AreBytes ((240 + c / 262144) ∷ (128 + c / 4096 % 64) ∷ (128 + c / 64 % 64) ∷ (128 + c % 64) ∷ rest)
four c rest h r =
    cons (240 + c / 262144) ((128 + c / 4096 % 64) ∷ (128 + c / 64 % 64) ∷ (128 + c % 64) ∷ rest) (omega (arith, h))
    (small_next (c / 4096) ((128 + c / 64 % 64) ∷ (128 + c % 64) ∷ rest) (small_next (c / 64) ((128 + c % 64) ∷ rest) (small_next c rest r)))

character : (c : ℕ) (rest : List ℕ) → scalar c ≡ true → AreBytes rest → AreBytes (encode c ++ rest)
unfolding encode
character c rest ok r =
    let most : c < 1114112 = below c ok in
    branch (λ bs. AreBytes (bs ++ rest)) (ltb c 128) (c ∷ []) _
    (λ h. cons c rest (omega (arith, ltb-true c 128 h)) r)
    (λ _. branch (λ bs. AreBytes (bs ++ rest)) (ltb c 2048) ((192 + c / 64) ∷ (128 + c % 64) ∷ []) _
    (λ h. two c rest (ltb-true c 2048 h) r)
    (λ _. branch (λ bs. AreBytes (bs ++ rest)) (ltb c 65536) ((224 + c / 4096) ∷ (128 + c / 64 % 64) ∷ (128 + c % 64) ∷ []) _
    (λ h. three c rest (ltb-true c 65536 h) r)
    (λ _. four c rest most r)))

characters : (cs : List ℕ) → scalars cs ≡ true → AreBytes (encodes cs)
characters [] ok = none
characters (c ∷ cs) ok =
    let both = and_parts (scalar c) (scalars cs) ok in
    character c (encodes cs) both.0 (characters cs both.1)

pub utf8_bytes : (text : List ℕ) → IsUtf8 text → AreBytes text
utf8_bytes text utf8 = subst AreBytes utf8.1.1 (characters utf8.0 utf8.1.0)

-- The tests of texts, and the facts that they stand for.
use Rattle.std.proofs.Common.{◌≡◌, ℕ, zero, suc, ◌+◌, ◌^◌, ◌-◌, ◌<◌, ◌≤◌, Bool, true, false, ◌||◌, inl, inr, List, [], ◌∷◌, length, drop, take, get_or, refl, sym, ap, subst, ◌∙◌, length-drop, arith}
use Rattle.std.specs.Prelude.{nat_le, ◌&&◌, IsTrue}
use Rattle.std.specs.Str.{IsCharBoundary, IsUtf8, is_utf8}
use Rattle.std.proofs.lemmas.Bool.{le-leb, leb-true, cases_Bool, and_parts}
use Rattle.std.proofs.lemmas.Str.{is_utf8-from_IsUtf8, IsUtf8-from_is_utf8, IsCharBoundary-from_take, IsUtf8-drop}
use Rattle.memchr.specs.Find.{NoneAfter, Nowhere, Passes, is_byte}
use Rattle.sn_rows.specs.Bounds.{is_text_of, is_device_string, has_device_lengths, has_colon, is_colon, before_colon, after_colon}

pub within : (t : List ℕ) (least most : ℕ) → IsUtf8 t → least ≤ length t → nat_le (length t) most ≡ is_text_of least most t
within t least most u h = rw (is_utf8-from_IsUtf8 t u, le-leb least (length t) h) refl

pub device : (t : List ℕ) → IsUtf8 t → has_device_lengths t ≡ is_device_string t
device t u = rw (is_utf8-from_IsUtf8 t u) refl

or_parts : (x y : Bool) → (x || y) ≡ false → (x ≡ false) × (y ≡ false)
or_parts false false e = (refl, refl)
or_parts true y e = absurd cc
or_parts false true e = absurd cc

or_right : (x y : Bool) → y ≡ true → (x || y) ≡ true
or_right true y e = refl
or_right false y e = e

-- a text without a colon
no_colon : (t : List ℕ) → has_colon t ≡ false → (before_colon t ≡ t) × (after_colon t ≡ [])
no_colon [] h = (refl, refl)
no_colon (b ∷ t) h =
    let p = or_parts (is_colon b) (has_colon t) h in
    (rw (p.1, p.0) refl, rw (p.1, p.0) refl)

colon_there : (i : ℕ) (t : List ℕ) → i < length t → is_colon (get_or t i 0) ≡ true → has_colon t ≡ true
colon_there i [] lt e = absurd (omega arith)
colon_there zero (b ∷ t) lt e = rw e refl
colon_there (suc i) (b ∷ t) lt e = or_right (is_colon b) (has_colon t) (colon_there i t (omega arith) e)

-- a text whose last colon stands at i
last_colon : (i : ℕ) (t : List ℕ) → i < length t → is_colon (get_or t i 0) ≡ true → has_colon (drop (suc i) t) ≡ false → (length (before_colon t) ≡ i) × (length (after_colon t) ≡ length t - suc i)
last_colon i [] lt e h = absurd (omega arith)
last_colon zero (b ∷ t) lt e h = (rw (h, e) refl, rw (h, e) (omega arith))
last_colon (suc i) (b ∷ t) lt e h =
    let there = colon_there i t (omega arith) e in
    let rest = last_colon i t (omega arith) e h in
    (rw there (omega (arith, rest.0)), rw there (omega (arith, rest.1)))

-- no colon stands from place i on
none_from : (i : ℕ) (t : List ℕ) → Nowhere (Passes (is_byte 58) t) i (length t) → has_colon (drop i t) ≡ false
none_from zero [] h = refl
none_from (suc i) [] h = refl
none_from zero (b ∷ t) h =
    let rest : has_colon t ≡ false = none_from zero t (λ k le lt at. h (suc k) (omega arith) (omega arith) at) in
    elim (cases_Bool (is_colon b)) [
      | inl colon ↦ absurd (h 0 (omega arith) (omega arith) colon)
      | inr other ↦ rw (other, rest) refl
    ]
none_from (suc i) (b ∷ t) h = none_from i t (λ k le lt at. h (suc k) (omega arith) (omega arith) at)

-- the parts of a text whose last colon was found
pub colon_found : (t : List ℕ) (place : ℕ) → NoneAfter (Passes (is_byte 58) t) 0 (length t) place × Passes (is_byte 58) t place
    → (length (before_colon t) ≡ place) × (length (after_colon t) ≡ length t - suc place)
colon_found t place h =
    last_colon place t h.0.high h.1 (none_from (suc place) t (λ k le lt at. h.0.after k (omega arith) lt at))

-- and of one in which none was found
pub colon_absent : (t : List ℕ) → Nowhere (Passes (is_byte 58) t) 0 (length t) → (before_colon t ≡ t) × (after_colon t ≡ [])
colon_absent t h = no_colon t (none_from 0 t h)

-- bytes that are no text
pub not_utf8 : (t : List ℕ) → (IsUtf8 t → ⊥) → is_utf8 t ≡ false
not_utf8 t h = elim (cases_Bool (is_utf8 t)) [
  | inl is ↦ absurd (h (IsUtf8-from_is_utf8 t is))
  | inr other ↦ other
]

-- the two parts and the colon
pub colon_parts : (t : List ℕ) → length t ≤ length (before_colon t) + (length (after_colon t) + 1)
colon_parts [] = omega arith
colon_parts (b ∷ t) = elim (cases_Bool (has_colon t)) [
  | inl there ↦ rw there (omega (arith, colon_parts t))
  | inr none ↦ elim (cases_Bool (is_colon b)) [
    | inl colon ↦ rw (none, colon) (omega arith)
    | inr other ↦ rw (none, other) (omega arith)
  ]
]

-- a device's string is short enough for its length's four bytes
pub device_short : (t : List ℕ) → is_device_string t ≡ true → length t < 2 ^ 32
device_short t e =
    let p = and_parts (is_utf8 t) (has_device_lengths t) e in
    let q = and_parts (nat_le (length (before_colon t)) 1048576) (nat_le (length (after_colon t)) 8192) p.1 in
    omega (arith, colon_parts t, leb-true (length (before_colon t)) 1048576 q.0, leb-true (length (after_colon t)) 8192 q.1)

-- a text may be cut behind a part of it that is a text
pub cut_at : (t u : List ℕ) (i least most : ℕ) → u ≡ t → IsUtf8 u → i ≤ length t → IsTrue (is_text_of least most (take i t)) → IsCharBoundary u i
cut_at t u i least most e utf8 le fits =
    let part : is_utf8 (take i t) ≡ true = (and_parts (is_utf8 (take i t)) (nat_le least (length (take i t)) && nat_le (length (take i t)) most) fits).0 in
    let P : List ℕ → Type 0 = λ x. IsUtf8 x → IsCharBoundary x i in
    subst P (sym e) (λ v. IsCharBoundary-from_take t i v le (IsUtf8-from_is_utf8 (take i t) part)) utf8

-- and so may what stands behind the first part
pub cut_behind : (t u : List ℕ) (k : ℕ) (rest : List ℕ) (i : ℕ) → u ≡ t → IsUtf8 u → k + i ≤ length t → rest ≡ drop k u
    → IsTrue (is_text_of 0 255 (take k t)) → IsTrue (is_text_of 0 1048576 (take i (drop k t))) → IsCharBoundary rest i
cut_behind t u k rest i e utf8 le back first second =
    let cut : IsCharBoundary u k = cut_at t u k 0 255 e utf8 (omega (arith, le)) first in
    let behind : IsUtf8 (drop k u) = IsUtf8-drop u k utf8 cut in
    let P : List ℕ → Type 0 = λ x. IsUtf8 x in
    let room : i ≤ length (drop k t) = rw (length-drop k t) (omega (arith, le)) in
    cut_at (drop k t) rest i 0 1048576 (back ∙ ap (drop k) e) (subst P (sym back) behind) room second

-- Elements of two lists that go together, and of one that rises.
use Rattle.std.proofs.Common.{◌≡◌, ◌⊎◌, ◌<◌, ℕ, zero, suc, List, [], ◌∷◌, ◌++◌, length, map, take, Some, Less, Equal, Greater, refl, sym, ap, subst, ⊎_elim, inl, inr, arith}
use Rattle.std.specs.List.{AllZip, Contains, slice_get}
use Rattle.std.specs.List.Sorted.{IsStrictlyIncreasing, IsStrictlySortedBy}
use Rattle.std.specs.Ordering.{nat_cmp}
use Rattle.std.specs.Cmp.{nat_cmp_is}
use Rattle.std.proofs.Math.Nat.{eq-or-lt_of_le}
use Rattle.std.proofs.lemmas.Bool.{cases_lt}
use Rattle.std.proofs.lemmas.List.Elements.{All-contains, All-from_recursion, Contains-append_cases, Contains-append_left, Contains-append_right, Contains-push, Contains-push_cases}
use Rattle.std.proofs.lemmas.Map.Keys.{sorted_from_strictly_increasing}

-- ---- elements

pub none_of : {A : Type 0} (x : A) → ¬ (Contains [] x)
none_of x has = absurd (omega (arith, has.1))

pub at_head : {A : Type 0} (x : A) (xs : List A) → Contains (x ∷ xs) x
at_head x xs = Contains-append_left (x ∷ []) xs x (Contains-push [] x)

pub behind_head : {A : Type 0} (y : A) (xs : List A) (x : A) → Contains xs x → Contains (y ∷ xs) x
behind_head y xs x has = Contains-append_right (y ∷ []) xs x has

pub head_or_behind : {A : Type 0} (y : A) (xs : List A) (x : A) → Contains (y ∷ xs) x → (y ≡ x) ⊎ Contains xs x
head_or_behind y xs x has =
    ⊎_elim (λ front. ⊎_elim (λ none. absurd (none_of x none)) (λ same. inl same) (Contains-push_cases [] y x front)) (λ behind. inr behind)
    (Contains-append_cases (y ∷ []) xs x has)

image : {A B : Type 0} (f : A → B) (xs : List A) (x : A) → Contains xs x → Contains (map f xs) (f x)
image f [] x has = absurd (none_of x has)
image f (y ∷ xs) x has =
    ⊎_elim
    (λ same. subst (λ b. Contains (f y ∷ map f xs) b) (ap f same) (at_head (f y) (map f xs)))
    (λ behind. behind_head (f y) (map f xs) (f x) (image f xs x behind))
    (head_or_behind y xs x has)

-- ---- lists that rise by a number of each element

abbrev pub Rises : {A : Type 0} → (A → ℕ) → List A → Type 0
Rises number xs = IsStrictlySortedBy nat_cmp (map number xs)

less_lt : (a b : ℕ) → nat_cmp a b ≡ Less → a < b
less_lt a b is =
    elim (cases_lt a b) [
      | inl below ↦ below
      | inr above ↦ elim (eq-or-lt_of_le above) [
        | inl same ↦ (let e = nat_cmp_is a b Equal (sym same) in absurd cc)
        | inr over ↦ (let e = nat_cmp_is a b Greater over in absurd cc)
      ]
    ]

-- the head is below what stands behind it
above_head : {A : Type 0} (number : A → ℕ) (x : A) (xs : List A) (z : A) → Rises number (x ∷ xs) → Contains xs z → number x < number z
unfolding IsStrictlySortedBy
above_head number x xs z rises has =
    let P : ℕ → Type 0 = λ c. nat_cmp (number x) c ≡ Less in
    less_lt (number x) (number z) (All-contains P (map number xs) (number z) (All-from_recursion P (map number xs) rises.0) (image number xs z has))

rises_behind : {A : Type 0} (number : A → ℕ) (x : A) (xs : List A) → Rises number (x ∷ xs) → Rises number xs
unfolding IsStrictlySortedBy
rises_behind number x xs rises = rises.1

-- where its numbers do
pub rises_so : {A : Type 0} (number : A → ℕ) (xs : List A) → IsStrictlyIncreasing (map number xs) → Rises number xs
rises_so number xs rising = sorted_from_strictly_increasing (map number xs) rising

-- ---- two lists

-- an empty list has no part in the middle
pub no_split : {A : Type 0} (front : List A) (x : A) (later : List A) → [] ≡ front ++ x ∷ later → ⊥
no_split [] x later e = cc
no_split (y ∷ front) x later e = cc

-- the part of a list that goes with the front of the other, and what goes with its next element
pub record Parts {A B : Type 0} (R : A → B → Type 0) (xs : List A) (front : List B) (y : B) : Type 0 where
  pub before : List A
  pub at : A
  pub later : List A
  pub split : xs ≡ before ++ at ∷ later
  pub zipped : AllZip R before front
  pub is : R at y

pub zip_parts : {A B : Type 0} (R : A → B → Type 0) (xs : List A) (front : List B) (y : B) (later : List B) → AllZip R xs (front ++ y ∷ later)
    → Parts R xs front y
zip_parts R [] [] y later zipped = absurd zipped
zip_parts R [] (z ∷ front) y later zipped = absurd zipped
zip_parts R (x ∷ xs) [] y later zipped = record { before = []; at = x; later = xs; split = refl; zipped = tt; is = zipped.0 }
zip_parts {A} R (x ∷ xs) (z ∷ front) y later zipped =
    let p = zip_parts R xs front y later zipped.1 in
    record {
      before = x ∷ p.before;
      at = p.at;
      later = p.later;
      split = ap (λ (rest : List A). x ∷ rest) p.split;
      zipped = (zipped.0, p.zipped);
      is = p.is;
    }

-- the same by the element's place
pub zip_at : {A B : Type 0} (R : A → B → Type 0) (xs : List A) (ys : List B) (k : ℕ) (y : B) → AllZip R xs ys → slice_get ys k ≡ Some y
    → Parts R xs (take k ys) y
zip_at R [] [] k y zipped e = absurd cc
zip_at R [] (z ∷ ys) k y zipped e = absurd zipped
zip_at R (x ∷ xs) [] k y zipped e = absurd zipped
zip_at R (x ∷ xs) (z ∷ ys) zero y zipped e =
    let same : z ≡ y = cc in
    record { before = []; at = x; later = xs; split = refl; zipped = tt; is = subst (R x) same zipped.0 }
zip_at {A} R (x ∷ xs) (z ∷ ys) (suc k) y zipped e =
    let p = zip_at R xs ys k y zipped.1 e in
    record {
      before = x ∷ p.before;
      at = p.at;
      later = p.later;
      split = ap (λ (rest : List A). x ∷ rest) p.split;
      zipped = (zipped.0, p.zipped);
      is = p.is;
    }

-- an element goes with one of the other list
pub zip_other : {A B : Type 0} (R : A → B → Type 0) (xs : List A) (ys : List B) (y : B) → AllZip R xs ys → Contains ys y → (x : A) × Contains xs x × R x y
zip_other R [] [] y zipped has = absurd (none_of y has)
zip_other R [] (z ∷ ys) y zipped has = absurd zipped
zip_other R (x ∷ xs) [] y zipped has = absurd zipped
zip_other {A} {B} R (x ∷ xs) (z ∷ ys) y zipped has =
    ⊎_elim
    (λ (same : z ≡ y). (x, at_head x xs, subst (λ (w : B). R x w) same zipped.0))
    (λ behind. let at = zip_other R xs ys y zipped.1 behind in (at.0, behind_head x xs at.0 at.1, at.2))
    (head_or_behind z ys y has)

-- two such lists have one length
pub zip_length : {A B : Type 0} (R : A → B → Type 0) (xs : List A) (ys : List B) → AllZip R xs ys → length xs ≡ length ys
zip_length R [] [] zipped = refl
zip_length R [] (z ∷ ys) zipped = absurd zipped
zip_length R (x ∷ xs) [] zipped = absurd zipped
zip_length R (x ∷ xs) (z ∷ ys) zipped = let rest = zip_length R xs ys zipped.1 in omega arith

-- what stands before an element of a list that rises is below it
pub below_at : {A : Type 0} (number : A → ℕ) (front : List A) (x : A) (later : List A) (z : A) → Rises number (front ++ x ∷ later) → Contains front z
    → number z < number x
below_at number [] x later z rises has = absurd (none_of z has)
below_at {A} number (y ∷ front) x later z rises has =
    ⊎_elim
    (λ (same : y ≡ z). subst (λ (w : A). number w < number x) same
    (above_head number y (front ++ x ∷ later) x rises (Contains-append_right front (x ∷ later) x (at_head x later))))
    (λ behind. below_at number front x later z (rises_behind number y (front ++ x ∷ later) rises) behind)
    (head_or_behind y front z has)

-- and what stands behind it is above it
pub above_at : {A : Type 0} (number : A → ℕ) (front : List A) (x : A) (later : List A) (z : A) → Rises number (front ++ x ∷ later) → Contains later z
    → number x < number z
above_at number [] x later z rises has = above_head number x later z rises has
above_at number (y ∷ front) x later z rises has = above_at number front x later z (rises_behind number y (front ++ x ∷ later) rises) has

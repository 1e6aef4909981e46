-- Elements of lists by their places: of lists without two alike, of two lists that go together, and of one that rises.
use Rattle.std.proofs.Common.{◌≡◌, ◌⊎◌, ◌<◌, ℕ, zero, suc, List, [], ◌∷◌, ◌++◌, length, map, take, Some, Less, Equal, Greater, refl, sym, ap, subst, ⊎_elim, inl, inr, arith}
use Rattle.std.specs.List.{AllZip, Contains, slice_get}
use Rattle.std.specs.List.Sorted.{IsStrictlyIncreasing, IsStrictlySortedBy}
use Rattle.std.specs.Ordering.{nat_cmp}
use Rattle.std.specs.Cmp.{nat_cmp_is}
use Rattle.std.proofs.Math.Nat.{eq-or-lt_of_le}
use Rattle.std.proofs.lemmas.Bool.{cases_lt}
use Rattle.std.proofs.lemmas.List.Elements.{All-contains, All-from_recursion, Contains-append_cases, Contains-append_left, Contains-append_right, Contains-push, Contains-push_cases}
use Rattle.std.proofs.lemmas.Map.Keys.{sorted_from_strictly_increasing}
use Rattle.sn_sync.specs.Versions.{AreApart}

-- ---- elements

pub none_of : {A : Type 0} (x : A) → ¬ (Contains [] x)
none_of x has = absurd (omega (arith, has.1))

pub at_head : {A : Type 0} (x : A) (xs : List A) → Contains (x ∷ xs) x
at_head x xs = Contains-append_left (x ∷ []) xs x (Contains-push [] x)

pub behind_head : {A : Type 0} (y : A) (xs : List A) (x : A) → Contains xs x → Contains (y ∷ xs) x
behind_head y xs x has = Contains-append_right (y ∷ []) xs x has

pub head_or_behind : {A : Type 0} (y : A) (xs : List A) (x : A) → Contains (y ∷ xs) x → (y ≡ x) ⊎ Contains xs x
head_or_behind y xs x has =
    ⊎_elim (λ front. ⊎_elim (λ none. absurd (none_of x none)) (λ same. inl same) (Contains-push_cases [] y x front)) (λ behind. inr behind)
    (Contains-append_cases (y ∷ []) xs x has)

-- what stands at a place is an element
pub contains_at : {A : Type 0} (xs : List A) (k : ℕ) (x : A) → slice_get xs k ≡ Some x → Contains xs x
contains_at [] k x at = absurd (cc)
contains_at (y ∷ ys) zero x at = let same : y ≡ x = cc in subst (λ z. Contains (y ∷ ys) z) same (at_head y ys)
contains_at (y ∷ ys) (suc k) x at = behind_head y ys x (contains_at ys k x at)

pub image : {A B : Type 0} (f : A → B) (xs : List A) (x : A) → Contains xs x → Contains (map f xs) (f x)
image f [] x has = absurd (none_of x has)
image f (y ∷ xs) x has =
    ⊎_elim
    (λ same. subst (λ b. Contains (f y ∷ map f xs) b) (ap f same) (at_head (f y) (map f xs)))
    (λ behind. behind_head (f y) (map f xs) (f x) (image f xs x behind))
    (head_or_behind y xs x has)

-- what a mapped list has is of one of the elements
pub of_map : {A B : Type 0} (f : A → B) (xs : List A) (b : B) → Contains (map f xs) b → (x : A) × Contains xs x × (f x ≡ b)
of_map f [] b has = absurd (none_of b has)
of_map f (y ∷ xs) b has =
    ⊎_elim
    (λ same. (y, at_head y xs, same))
    (λ behind. let rest = of_map f xs b behind in (rest.0, behind_head y xs rest.0 rest.1, rest.2))
    (head_or_behind (f y) (map f xs) b has)

-- where no two have one name, none before a place has that of the element there
pub apart_before : {A : Type 0} (name : A → List ℕ) (xs : List A) (k : ℕ) (x : A) → AreApart (map name xs) → slice_get xs k ≡ Some x
    → ¬ (Contains (map name (take k xs)) (name x))
apart_before name [] k x apart at = absurd (cc)
apart_before name (y ∷ ys) zero x apart at = λ has. none_of (name x) has
apart_before name (y ∷ ys) (suc k) x apart at =
    let there : Contains (map name ys) (name x) = image name ys x (contains_at ys k x at) in
    λ has. ⊎_elim
    (λ (same : name y ≡ name x). apart.0 (subst (λ b. Contains (map name ys) b) (sym same) there))
    (λ behind. apart_before name ys k x apart.1 at behind)
    (head_or_behind (name y) (map name (take k ys)) (name x) has)

-- ---- a list that rises by a number of each element

abbrev pub Rises : {A : Type 0} → (A → ℕ) → List A → Type 0
Rises number xs = IsStrictlySortedBy nat_cmp (map number xs)

less_lt : (a b : ℕ) → nat_cmp a b ≡ Less → a < b
less_lt a b is =
    elim (cases_lt a b) [
      | inl below ↦ below
      | inr above ↦ elim (eq-or-lt_of_le above) [
        | inl same ↦ (let e = nat_cmp_is a b Equal (sym same) in absurd cc)
        | inr over ↦ (let e = nat_cmp_is a b Greater over in absurd cc)
      ]
    ]

pub above_head : {A : Type 0} (number : A → ℕ) (x : A) (xs : List A) (z : A) → Rises number (x ∷ xs) → Contains xs z → number x < number z
unfolding IsStrictlySortedBy
above_head number x xs z rises has =
    let P : ℕ → Type 0 = λ c. nat_cmp (number x) c ≡ Less in
    less_lt (number x) (number z) (All-contains P (map number xs) (number z) (All-from_recursion P (map number xs) rises.0) (image number xs z has))

pub rises_behind : {A : Type 0} (number : A → ℕ) (x : A) (xs : List A) → Rises number (x ∷ xs) → Rises number xs
unfolding IsStrictlySortedBy
rises_behind number x xs rises = rises.1

pub rises_so : {A : Type 0} (number : A → ℕ) (xs : List A) → IsStrictlyIncreasing (map number xs) → Rises number xs
rises_so number xs rising = sorted_from_strictly_increasing (map number xs) rising

-- what stands before an element is below it
pub below_at : {A : Type 0} (number : A → ℕ) (front : List A) (x : A) (later : List A) (z : A) → Rises number (front ++ x ∷ later) → Contains front z
    → number z < number x
below_at number [] x later z rises has = absurd (none_of z has)
below_at {A} number (y ∷ front) x later z rises has =
    ⊎_elim
    (λ (same : y ≡ z). subst (λ (w : A). number w < number x) same
    (above_head number y (front ++ x ∷ later) x rises (Contains-append_right front (x ∷ later) x (at_head x later))))
    (λ behind. below_at number front x later z (rises_behind number y (front ++ x ∷ later) rises) behind)
    (head_or_behind y front z has)

-- ---- two lists

-- the part of a list that goes with the front of the other, and what goes with its next element
pub record Parts {A B : Type 0} (R : A → B → Type 0) (xs : List A) (front : List B) (y : B) : Type 0 where
  pub before : List A
  pub at : A
  pub later : List A
  pub split : xs ≡ before ++ at ∷ later
  pub zipped : AllZip R before front
  pub is : R at y

pub zip_at : {A B : Type 0} (R : A → B → Type 0) (xs : List A) (ys : List B) (k : ℕ) (y : B) → AllZip R xs ys → slice_get ys k ≡ Some y
    → Parts R xs (take k ys) y
zip_at R [] [] k y zipped e = absurd cc
zip_at R [] (z ∷ ys) k y zipped e = absurd zipped
zip_at R (x ∷ xs) [] k y zipped e = absurd zipped
zip_at R (x ∷ xs) (z ∷ ys) zero y zipped e =
    let same : z ≡ y = cc in
    record { before = []; at = x; later = xs; split = refl; zipped = tt; is = subst (R x) same zipped.0 }
zip_at {A} R (x ∷ xs) (z ∷ ys) (suc k) y zipped e =
    let p = zip_at R xs ys k y zipped.1 e in
    record {
      before = x ∷ p.before;
      at = p.at;
      later = p.later;
      split = ap (λ (rest : List A). x ∷ rest) p.split;
      zipped = (zipped.0, p.zipped);
      is = p.is;
    }

-- an element goes with one of the other list
pub zip_other : {A B : Type 0} (R : A → B → Type 0) (xs : List A) (ys : List B) (y : B) → AllZip R xs ys → Contains ys y → (x : A) × Contains xs x × R x y
zip_other R [] [] y zipped has = absurd (none_of y has)
zip_other R [] (z ∷ ys) y zipped has = absurd zipped
zip_other R (x ∷ xs) [] y zipped has = absurd zipped
zip_other {A} {B} R (x ∷ xs) (z ∷ ys) y zipped has =
    ⊎_elim
    (λ (same : z ≡ y). (x, at_head x xs, subst (λ (w : B). R x w) same zipped.0))
    (λ behind. let at = zip_other R xs ys y zipped.1 behind in (at.0, behind_head x xs at.0 at.1, at.2))
    (head_or_behind z ys y has)

-- two such lists have one length
pub zip_length : {A B : Type 0} (R : A → B → Type 0) (xs : List A) (ys : List B) → AllZip R xs ys → length xs ≡ length ys
zip_length R [] [] zipped = refl
zip_length R [] (z ∷ ys) zipped = absurd zipped
zip_length R (x ∷ xs) [] zipped = absurd zipped
zip_length R (x ∷ xs) (z ∷ ys) zipped = let rest = zip_length R xs ys zipped.1 in omega arith

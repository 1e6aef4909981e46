-- Lists whose elements are right by those before them, and what a search through a list finds.
use Rattle.std.proofs.Common.{arith, ◌≡◌, ◌∙◌, ap, sym, subst, refl, ℕ, ◌+◌, ◌<◌, ◌≤◌, ◌⊎◌, inl, inr, ◌↔◌, Bool, true, false, IsTrue, List, get_or, length, map, take, Option, Some, None}
use Rattle.std.proofs.lemmas.Bool.{cases_lt}
use Rattle.std.proofs.lemmas.List.{get_or-take, length-take-le, take-take}
use Rattle.std.proofs.lemmas.Option.{get_or_from_slice_get, slice_get-map, slice_get_read, slice_get_within}
use Rattle.std.specs.List.{Contains, slice_get}
use Rattle.std.specs.Prelude.{option_map}
use Rattle.sn_conflict.specs.Lists.{AllRight, IsFirstWrong, RightBefore}

-- ---- right elements

pub right_none : {X : Type 0} (Right : List X → X → Type 0) (items : List X) → RightBefore Right items 0
right_none Right items = λ k x less at. absurd (omega arith)

right_at : {X : Type 0} (Right : List X → X → Type 0) (items : List X) (n : ℕ) (x : X) → RightBefore Right items n
    → slice_get items n ≡ Some x → Right (take n items) x
    → (k : ℕ) (y : X) → k < n + 1 → slice_get items k ≡ Some y → (k < n) ⊎ (n ≤ k) → Right (take k items) y
right_at Right items n x before here right k y less at (inl earlier) = before k y earlier at
right_at {X} Right items n x before here right k y less at (inr later) =
    let same : k ≡ n = omega arith in
    let item : x ≡ y = cc in
    subst (λ (m : ℕ). Right (take m items) y) (sym same) (subst (λ (z : X). Right (take n items) z) item right)

pub right_more : {X : Type 0} (Right : List X → X → Type 0) (items : List X) (n : ℕ) (x : X) → RightBefore Right items n
    → slice_get items n ≡ Some x → Right (take n items) x → RightBefore Right items (n + 1)
right_more Right items n x before here right = λ k y less at. right_at Right items n x before here right k y less at (cases_lt k n)

pub right_front : {X : Type 0} (Right : List X → X → Type 0) (items : List X) (n : ℕ) → n ≤ length items
    → RightBefore Right items n → AllRight Right (take n items)
right_front {X} Right items n within before = λ k x less at.
    let short : length (take n items) ≡ n = length-take-le n items within in
    let earlier : k < n = omega (arith, short) in
    let read : get_or (take n items) k x ≡ x = get_or_from_slice_get (take n items) k x x at in
    let there : x ≡ get_or items k x = sym read ∙ get_or-take n items k x earlier in
    let found : slice_get items k ≡ Some x = slice_get_read items (length items) k x refl (omega arith) there in
    let front : take k items ≡ take k (take n items) = sym (take-take k n items (omega arith)) in
    subst (λ (xs : List X). Right xs x) front (before k x earlier found)

-- ---- a search

abbrev pub NoneBefore : {X : Type 0} → (X → Type 0) → List X → ℕ → Type 0
NoneBefore {X} P items n = (k : ℕ) (x : X) → k < n → slice_get items k ≡ Some x → ¬ (P x)

abbrev pub Has : {X : Type 0} → (X → Type 0) → List X → Type 0
Has {X} P items = (x : X) × Contains items x × P x

pub none_first : {X : Type 0} (P : X → Type 0) (items : List X) → NoneBefore P items 0
none_first P items = λ k x less at. absurd (omega arith)

none_at : {X : Type 0} (P : X → Type 0) (items : List X) (n : ℕ) (x : X) → NoneBefore P items n → slice_get items n ≡ Some x → ¬ (P x)
    → (k : ℕ) (y : X) → k < n + 1 → slice_get items k ≡ Some y → (k < n) ⊎ (n ≤ k) → ¬ (P y)
none_at P items n x before here isnt k y less at (inl earlier) = before k y earlier at
none_at {X} P items n x before here isnt k y less at (inr later) =
    let same : k ≡ n = omega arith in
    let item : y ≡ x = cc in
    λ p. isnt (subst P item p)

pub none_more : {X : Type 0} (P : X → Type 0) (items : List X) (n : ℕ) (x : X) → NoneBefore P items n → slice_get items n ≡ Some x
    → ¬ (P x) → NoneBefore P items (n + 1)
none_more P items n x before here isnt = λ k y less at. none_at P items n x before here isnt k y less at (cases_lt k n)

pub contains_at : {X : Type 0} (items : List X) (k : ℕ) (x : X) → slice_get items k ≡ Some x → Contains items x
contains_at items k x at = (k, slice_get_within items k x at, get_or_from_slice_get items k x x at)

pub has_here : {X : Type 0} (P : X → Type 0) (items : List X) (k : ℕ) (x : X) → slice_get items k ≡ Some x → P x → Has P items
has_here P items k x at p = (x, contains_at items k x at, p)

pub place_of : {X : Type 0} (items : List X) (x : X) → (h : Contains items x) → slice_get items h.0 ≡ Some x
place_of items x h = slice_get_read items (length items) h.0 x refl h.1 (sym h.2)

pub has_none : {X : Type 0} (P : X → Type 0) (items : List X) → NoneBefore P items (length items) → ¬ (Has P items)
has_none P items none = λ h. none h.1.0 h.0 h.1.1 (place_of items h.0 h.1) h.2

-- ---- what is contained in the names of a list

named_at : {X Y : Type 0} (f : X → Y) (items : List X) (y : Y) (k : ℕ) (o : Option X) → slice_get items k ≡ o
    → option_map f o ≡ Some y → Has (λ x. f x ≡ y) items
named_at f items y k None is e = absurd (cc)
named_at f items y k (Some x) is e = (x, contains_at items k x is, cc)

pub named : {X Y : Type 0} (f : X → Y) (items : List X) (y : Y) → Contains (map f items) y → Has (λ x. f x ≡ y) items
named f items y h =
    let at = place_of (map f items) y h in
    named_at f items y h.0 (slice_get items h.0) refl (sym (slice_get-map f items h.0) ∙ at)

pub names : {X Y : Type 0} (f : X → Y) (items : List X) (y : Y) → Has (λ x. f x ≡ y) items → Contains (map f items) y
names f items y h =
    let there = place_of items h.0 h.1 in
    contains_at (map f items) h.1.0 y (slice_get-map f items h.1.0 ∙ ap (option_map f) there ∙ ap Some h.2)

-- ---- as a loop finds them

pub found_here : {X : Type 0} (P : X → Type 0) (items : List X) (k : ℕ) (x : X) → k < length items → x ≡ get_or items k x → P x
    → (IsTrue true ↔ Has P items)
found_here P items k x less is p = (λ holds. has_here P items k x (slice_get_read items (length items) k x refl less is) p, λ h. refl)

pub found_nowhere : {X : Type 0} (P : X → Type 0) (items : List X) (n : ℕ) → length items ≤ n → NoneBefore P items n → (IsTrue false ↔ Has P items)
found_nowhere P items n past none = (
  λ holds. absurd cc,
  λ h. absurd (let within = h.1.1 in none h.1.0 h.0 (omega arith) (place_of items h.0 h.1) h.2),
)

pub none_beyond : {X : Type 0} (P : X → Type 0) (items : List X) (n : ℕ) (x : X) → NoneBefore P items n → n < length items → x ≡ get_or items n x
    → ¬ (P x) → NoneBefore P items (n + 1)
none_beyond P items n x before less is isnt = none_more P items n x before (slice_get_read items (length items) n x refl less is) isnt

pub named_here : {X Y : Type 0} (f : X → Y) (items : List X) (y : Y) (k : ℕ) (x : X) → k < length items → x ≡ get_or items k x → f x ≡ y
    → (IsTrue true ↔ Contains (map f items) y)
named_here f items y k x less is same =
    (λ holds. names f items y (has_here (λ z. f z ≡ y) items k x (slice_get_read items (length items) k x refl less is) same), λ h. refl)

pub named_nowhere : {X Y : Type 0} (f : X → Y) (items : List X) (y : Y) (n : ℕ) → length items ≤ n → NoneBefore (λ z. f z ≡ y) items n
    → (IsTrue false ↔ Contains (map f items) y)
named_nowhere f items y n past none =
    (λ holds. absurd cc, λ h. (found_nowhere (λ z. f z ≡ y) items n past none).1 (named f items y h))

pub first_wrong : {X : Type 0} (Right : List X → X → Type 0) (items : List X) (n : ℕ) (x : X) (front : List X) (b : Bool)
    → (IsTrue b ↔ Right front x) → front ≡ take n items → b ≡ false → n < length items → x ≡ get_or items n x → RightBefore Right items n
    → IsFirstWrong Right items n
first_wrong {X} Right items n x front b test front_is failed less is before =
    let at = slice_get_read items (length items) n x refl less is in
    let P : List X → Type 0 = λ f. ¬ (Right f x) in
    let not : ¬ (Right front x) = λ right. absurd (let e = sym failed ∙ test.1 right in cc) in
    (x, at, before, subst P front_is not)

pub right_beyond : {X : Type 0} (Right : List X → X → Type 0) (items : List X) (n : ℕ) (x : X) (front : List X) (b : Bool)
    → (IsTrue b ↔ Right front x) → front ≡ take n items → b ≡ true → n < length items → x ≡ get_or items n x → RightBefore Right items n
    → RightBefore Right items (n + 1)
right_beyond {X} Right items n x front b test front_is passed less is before =
    right_more Right items n x before (slice_get_read items (length items) n x refl less is)
    (subst (λ (f : List X). Right f x) front_is (test.0 passed))

pub all_right : {X : Type 0} (Right : List X → X → Type 0) (items : List X) (n : ℕ) → length items ≤ n → RightBefore Right items n → AllRight Right items
all_right Right items n past before = λ k x less at. before k x (omega arith) at

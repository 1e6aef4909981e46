-- Elements of lists, and lists that rise by a number of each element.
use Rattle.std.proofs.Common.{◌≡◌, ◌⊎◌, ◌<◌, ℕ, ◌∙◌, Bool, true, false, cond, List, [], ◌∷◌, ◌++◌, map, Less, Equal, Greater, refl, sym, ap, subst, ⊎_elim, inl, inr, arith}
use Rattle.std.specs.Cmp.{nat_cmp_is}
use Rattle.std.specs.List.{AllByRecursion, Contains, filter}
use Rattle.std.specs.Ordering.{nat_cmp}
use Rattle.std.specs.List.Sorted.{IsStrictlyIncreasing, IsStrictlySortedBy}
use Rattle.std.proofs.Math.Nat.{eq-or-lt_of_le}
use Rattle.std.proofs.lemmas.Bool.{cases_lt}
use Rattle.std.proofs.lemmas.List.Elements.{All-contains, All-from_recursion, Contains-append_cases, Contains-append_left, Contains-append_right, Contains-push, Contains-push_cases}
use Rattle.std.proofs.lemmas.Map.Keys.{sorted_from_strictly_increasing}

pub none_of : {A : Type 0} (x : A) → ¬ (Contains [] x)
none_of x has = absurd (omega (arith, has.1))

pub at_head : {A : Type 0} (x : A) (xs : List A) → Contains (x ∷ xs) x
at_head x xs = Contains-append_left (x ∷ []) xs x (Contains-push [] x)

pub behind_head : {A : Type 0} (y : A) (xs : List A) (x : A) → Contains xs x → Contains (y ∷ xs) x
behind_head y xs x has = Contains-append_right (y ∷ []) xs x has

pub head_or_behind : {A : Type 0} (y : A) (xs : List A) (x : A) → Contains (y ∷ xs) x → (y ≡ x) ⊎ Contains xs x
head_or_behind y xs x has =
    ⊎_elim (λ front. ⊎_elim (λ none. absurd (none_of x none)) (λ same. inl same) (Contains-push_cases [] y x front)) (λ behind. inr behind)
    (Contains-append_cases (y ∷ []) xs x has)

-- an element's image
pub image : {A B : Type 0} (f : A → B) (xs : List A) (x : A) → Contains xs x → Contains (map f xs) (f x)
image f [] x has = absurd (none_of x has)
image f (y ∷ xs) x has =
    ⊎_elim
    (λ same. subst (λ b. Contains (f y ∷ map f xs) b) (ap f same) (at_head (f y) (map f xs)))
    (λ behind. behind_head (f y) (map f xs) (f x) (image f xs x behind))
    (head_or_behind y xs x has)

-- and back
pub of_image : {A B : Type 0} (f : A → B) (xs : List A) (b : B) → Contains (map f xs) b → (x : A) × Contains xs x × (f x ≡ b)
of_image f [] b has = absurd (none_of b has)
of_image f (y ∷ xs) b has =
    ⊎_elim
    (λ same. (y, at_head y xs, same))
    (λ behind. let at = of_image f xs b behind in (at.0, behind_head y xs at.0 at.1, at.2))
    (head_or_behind (f y) (map f xs) b has)

-- an element that passes stays in a filter
pub in_filter : {A : Type 0} (test : A → Bool) (xs : List A) (x : A) → Contains xs x → test x ≡ true → Contains (filter test xs) x
in_filter test [] x has passes = absurd (none_of x has)
in_filter {A} test (y ∷ xs) x has passes = by_test (test y) refl (head_or_behind y xs x has) (λ behind. in_filter test xs x behind passes)
  where
    by_test : (b : Bool) → test y ≡ b → (y ≡ x) ⊎ Contains xs x → (Contains xs x → Contains (filter test xs) x)
        → Contains (cond b (y ∷ filter test xs) (filter test xs)) x
    by_test true e (inl same) more = subst (λ (z : A). Contains (y ∷ filter test xs) z) same (at_head y (filter test xs))
    by_test true e (inr behind) more = behind_head y (filter test xs) x (more behind)
    by_test false e (inl same) more = (let no : test x ≡ false = ap test (sym same) ∙ e in absurd cc)
    by_test false e (inr behind) more = more behind

less_lt : (a b : ℕ) → nat_cmp a b ≡ Less → a < b
less_lt a b is =
    elim (cases_lt a b) [
      | inl below ↦ below
      | inr above ↦ elim (eq-or-lt_of_le above) [
        | inl same ↦ (let e = nat_cmp_is a b Equal (sym same) in absurd cc)
        | inr over ↦ (let e = nat_cmp_is a b Greater over in absurd cc)
      ]
    ]

-- what stands behind an element of a list in order is greater
pub later_above : (front : List ℕ) (a : ℕ) (left : List ℕ) (b : ℕ) → IsStrictlySortedBy nat_cmp (front ++ a ∷ left) → Contains left b → a < b
unfolding IsStrictlySortedBy
later_above [] a left b sorted has =
    less_lt a b (All-contains (λ (c : ℕ). nat_cmp a c ≡ Less) left b (All-from_recursion (λ (c : ℕ). nat_cmp a c ≡ Less) left sorted.0) has)
later_above (x ∷ front) a left b sorted has = later_above front a left b sorted.1 has

-- ---- one list of given elements

-- by a number of each element
abbrev pub Rises : {A : Type 0} → (A → ℕ) → List A → Type 0
Rises number xs = IsStrictlySortedBy nat_cmp (map number xs)

-- each of these is above a number
pub all_above : {A : Type 0} (number : A → ℕ) (a : ℕ) (xs : List A) → ((z : A) → Contains xs z → a < number z) → AllByRecursion (λ c. nat_cmp a c ≡ Less) (map number xs)
all_above number a [] above = tt
all_above number a (x ∷ xs) above =
    (sym (nat_cmp_is a (number x) Less (above x (at_head x xs))), all_above number a xs (λ z has. above z (behind_head x xs z has)))

pub none_rise : {A : Type 0} (number : A → ℕ) → Rises number []
unfolding IsStrictlySortedBy
none_rise number = tt

pub rises_cons : {A : Type 0} (number : A → ℕ) (x : A) (xs : List A) → ((z : A) → Contains xs z → number x < number z) → Rises number xs → Rises number (x ∷ xs)
unfolding IsStrictlySortedBy
rises_cons number x xs above rises = (all_above number (number x) xs above, rises)

rises_behind : {A : Type 0} (number : A → ℕ) (x : A) (xs : List A) → Rises number (x ∷ xs) → Rises number xs
unfolding IsStrictlySortedBy
rises_behind number x xs rises = rises.1

pub above_head : {A : Type 0} (number : A → ℕ) (x : A) (xs : List A) (z : A) → Rises number (x ∷ xs) → Contains xs z → number x < number z
above_head number x xs z rises has = later_above [] (number x) (map number xs) (number z) rises (image number xs z has)

-- what stands before the last is below it
pub below_last : {A : Type 0} (number : A → ℕ) (xs : List A) (x : A) (z : A) → Rises number (xs ++ x ∷ []) → Contains xs z → number z < number x
below_last number [] x z rises has = absurd (none_of z has)
below_last {A} number (y ∷ xs) x z rises has =
    ⊎_elim
    (λ (same : y ≡ z). subst (λ (w : A). number w < number x) same (above_head number y (xs ++ x ∷ []) x rises (Contains-push xs x)))
    (λ behind. below_last number xs x z (rises_behind number y (xs ++ x ∷ []) rises) behind)
    (head_or_behind y xs z has)

-- an element of the one list behind its head is one of the other list behind the same head
behind_both : {A : Type 0} (number : A → ℕ) (x : A) (xs ys : List A) (z : A) → Rises number (x ∷ xs) → (Contains (x ∷ xs) z → Contains (x ∷ ys) z)
    → Contains xs z → Contains ys z
behind_both number x xs ys z rises over has =
    ⊎_elim
    (λ (same : x ≡ z). (let less = above_head number x xs z rises has in let e = ap number same in absurd (omega arith)))
    (λ behind. behind)
    (head_or_behind x ys z (over (behind_head x xs z has)))

-- the heads are the same
one_head : {A : Type 0} (number : A → ℕ) (x : A) (xs : List A) (y : A) (ys : List A) → Rises number (x ∷ xs) → Rises number (y ∷ ys)
    → Contains (y ∷ ys) x → Contains (x ∷ xs) y → x ≡ y
one_head number x xs y ys first second has had =
    ⊎_elim (λ same. sym same)
    (λ x_behind. ⊎_elim (λ same. same)
    (λ y_behind. (let below = above_head number y ys x second x_behind in let over = above_head number x xs y first y_behind in absurd (omega arith)))
    (head_or_behind x xs y had))
    (head_or_behind y ys x has)

-- two such lists with the same elements are the same
pub one_rising : {A : Type 0} (number : A → ℕ) (xs ys : List A) → Rises number xs → Rises number ys → ((x : A) → Contains xs x → Contains ys x)
    → ((x : A) → Contains ys x → Contains xs x) → xs ≡ ys
one_rising number [] [] first second over back = refl
one_rising number [] (y ∷ ys) first second over back = absurd (none_of y (back y (at_head y ys)))
one_rising number (x ∷ xs) [] first second over back = absurd (none_of x (over x (at_head x xs)))
one_rising {A} number (x ∷ xs) (y ∷ ys) first second over back =
    let same : x ≡ y = one_head number x xs y ys first second (over x (at_head x xs)) (back y (at_head y ys)) in
    let second_x : Rises number (x ∷ ys) = subst (λ (z : A). Rises number (z ∷ ys)) (sym same) second in
    let over_x : (z : A) → Contains (x ∷ xs) z → Contains (x ∷ ys) z = λ z has. subst (λ (w : A). Contains (w ∷ ys) z) (sym same) (over z has) in
    let back_x : (z : A) → Contains (x ∷ ys) z → Contains (x ∷ xs) z = λ z has. back z (subst (λ (w : A). Contains (w ∷ ys) z) same has) in
    let others : xs ≡ ys = one_rising number xs ys (rises_behind number x xs first) (rises_behind number x ys second_x)
    (λ z has. behind_both number x xs ys z first (over_x z) has) (λ z has. behind_both number x ys xs z second_x (back_x z) has) in
    cc

-- where its numbers do
pub rises_so : {A : Type 0} (number : A → ℕ) (xs : List A) → IsStrictlyIncreasing (map number xs) → Rises number xs
rises_so number xs rising = sorted_from_strictly_increasing (map number xs) rising

-- From tests to what they test.
use Rattle.std.proofs.Common.{◌≡◌, ◌⊎◌, ◌<◌, ◌≤◌, ℕ, List, [], ◌∷◌, ◌++◌, Some, Bool, true, false, refl, inl, inr, ⊎_elim, arith}
use Rattle.std.specs.Prelude.{◌&&◌, ◌||◌, ◌==◌, not, nat_lt, nat_le, find, cond}
use Rattle.std.specs.List.{list_all, list_any}
use Rattle.std.specs.Str.{bytes_eq}
use Rattle.std.proofs.lemmas.Bool.{and_parts, eqb-true, leb-true, le-leb, lt-ltb, ltb-true}
use Rattle.std.proofs.lemmas.Slice.Eq.{bytes_eq-Decides}
use Rattle.sn_laws.specs.Each.{Each, One}

pub and_both : (a b : Bool) → a ≡ true → b ≡ true → (a && b) ≡ true
and_both true b e k = k
and_both false b e k = absurd (cc)

pub or_cases : (a b : Bool) → (a || b) ≡ true → (a ≡ true) ⊎ (b ≡ true)
or_cases true b h = inl refl
or_cases false b h = inr h

pub or_left : (a b : Bool) → a ≡ true → (a || b) ≡ true
or_left true b e = refl
or_left false b e = absurd (cc)

pub or_right : (a b : Bool) → b ≡ true → (a || b) ≡ true
or_right true b e = refl
or_right false b e = e

pub not_false : (b : Bool) → not b ≡ true → b ≡ false
not_false true h = absurd (cc)
not_false false h = refl

pub not_true : (b : Bool) → b ≡ false → not b ≡ true
not_true true h = absurd (cc)
not_true false h = refl

pub clash : (b : Bool) → b ≡ true → b ≡ false → ⊥
clash b t f = cc

pub is_false : (b : Bool) → ¬ (b ≡ true) → b ≡ false
is_false true h = absurd (h refl)
is_false false h = refl

pub same_text : (a b : List ℕ) → bytes_eq a b ≡ true → a ≡ b
same_text a b h = (bytes_eq-Decides a b).0 h

pub text_same : (a b : List ℕ) → a ≡ b → bytes_eq a b ≡ true
text_same a b h = (bytes_eq-Decides a b).1 h

pub same_number : (a b : ℕ) → (a == b) ≡ true → a ≡ b
same_number a b h = eqb-true a b h

pub number_same : (a b : ℕ) → a ≡ b → (a == b) ≡ true
number_same a b h = grind (arith, h)

pub below : (a b : ℕ) → nat_lt a b ≡ true → a < b
below a b h = ltb-true a b h

pub is_below : (a b : ℕ) → a < b → nat_lt a b ≡ true
is_below a b h = lt-ltb a b h

pub at_most : (a b : ℕ) → nat_le a b ≡ true → a ≤ b
at_most a b h = leb-true a b h

pub is_at_most : (a b : ℕ) → a ≤ b → nat_le a b ≡ true
is_at_most a b h = le-leb a b h

pub each_from : {A : Type 0} (p : A → Bool) (P : A → Type 0) → ((x : A) → p x ≡ true → P x) → (xs : List A) → list_all p xs ≡ true → Each P xs
each_from p P f [] h = tt
each_from p P f (x ∷ xs) h =
    let both = and_parts (p x) (list_all p xs) h in
    (f x both.0, each_from p P f xs both.1)

pub each_to : {A : Type 0} (p : A → Bool) (P : A → Type 0) → ((x : A) → P x → p x ≡ true) → (xs : List A) → Each P xs → list_all p xs ≡ true
each_to p P f [] h = refl
each_to p P f (x ∷ xs) h = and_both (p x) (list_all p xs) (f x h.0) (each_to p P f xs h.1)

pub one_from : {A : Type 0} (p : A → Bool) (P : A → Type 0) → ((x : A) → p x ≡ true → P x) → (xs : List A) → list_any p xs ≡ true → One P xs
one_from p P f [] h = absurd (cc)
one_from p P f (x ∷ xs) h = ⊎_elim (λ e. inl (f x e)) (λ e. inr (one_from p P f xs e)) (or_cases (p x) (list_any p xs) h)

pub one_to : {A : Type 0} (p : A → Bool) (P : A → Type 0) → ((x : A) → P x → p x ≡ true) → (xs : List A) → One P xs → list_any p xs ≡ true
one_to p P f [] h = absurd h
one_to p P f (x ∷ xs) h = ⊎_elim (λ e. or_left (p x) (list_any p xs) (f x e)) (λ e. or_right (p x) (list_any p xs) (one_to p P f xs e)) h

or_false : (a b : Bool) → (a || b) ≡ false → (a ≡ false) × (b ≡ false)
or_false true b h = absurd (cc)
or_false false b h = (refl, h)

both_false : (a b : Bool) → a ≡ false → b ≡ false → (a || b) ≡ false
both_false true b e k = absurd (cc)
both_false false b e k = k

pub none_from : {A : Type 0} (p : A → Bool) (P : A → Type 0) → ((x : A) → P x → p x ≡ true) → (xs : List A) → list_any p xs ≡ false
    → Each (λ x. ¬ (P x)) xs
none_from p P f [] h = tt
none_from p P f (x ∷ xs) h =
    let both = or_false (p x) (list_any p xs) h in
    (λ e. clash (p x) (f x e) both.0, none_from p P f xs both.1)

pub none_to : {A : Type 0} (p : A → Bool) (P : A → Type 0) → ((x : A) → p x ≡ true → P x) → (xs : List A) → Each (λ x. ¬ (P x)) xs
    → list_any p xs ≡ false
none_to p P f [] h = refl
none_to p P f (x ∷ xs) h = both_false (p x) (list_any p xs) (is_false (p x) (λ e. h.0 (f x e))) (none_to p P f xs h.1)

pub each_front : {A : Type 0} (P : A → Type 0) (xs ys : List A) → Each P (xs ++ ys) → Each P xs
each_front P [] ys h = tt
each_front P (x ∷ xs) ys h = (h.0, each_front P xs ys h.1)

pub each_back : {A : Type 0} (P : A → Type 0) (xs ys : List A) → Each P (xs ++ ys) → Each P ys
each_back P [] ys h = h
each_back P (x ∷ xs) ys h = each_back P xs ys h.1

pub found_passes : {A : Type 0} (p : A → Bool) (xs : List A) (a : A) → find p xs ≡ Some a → (p a ≡ true) × One (λ x. x ≡ a) xs
found_passes p [] a h = absurd (cc)
found_passes p (x ∷ xs) a h = at (λ e. found_passes p xs a e) (p x) refl h
  where
    at : (find p xs ≡ Some a → (p a ≡ true) × One (λ y. y ≡ a) xs) → (b : Bool) → p x ≡ b → cond b (Some x) (find p xs) ≡ Some a
        → (p a ≡ true) × One (λ y. y ≡ a) (x ∷ xs)
    at rest true e h = let same : x ≡ a = cc in (cc, inl same)
    at rest false e h = ((rest h).0, inr (rest h).1)

-- What is found in a list after one more element, a change of some, or without some.
use Rattle.std.proofs.Common.{◌≡◌, List, [], ◌∷◌, ◌++◌, Some, None, Bool, true, false, refl, ap, ◌∙◌}
use Rattle.std.specs.Prelude.{cond, if◌then◌else◌, find, not}
use Rattle.sn_laws.specs.Moves.{changed_where, without}

-- the one more, where nothing was found before
pub find_new : {A : Type 0} (q : A → Bool) (xs : List A) (y : A) → find q xs ≡ None → q y ≡ true → find q (xs ++ y ∷ []) ≡ Some y
find_new q [] y none is = rw is refl
find_new q (x ∷ xs) y none is = at (λ e. find_new q xs y e is) (q x) none
  where
    at : (find q xs ≡ None → find q (xs ++ y ∷ []) ≡ Some y) → (b : Bool) → cond b (Some x) (find q xs) ≡ None
        → cond b (Some x) (find q (xs ++ y ∷ [])) ≡ Some y
    at rest true e = absurd (cc)
    at rest false e = rest e

-- what was found before, where the one more does not pass
pub find_past_new : {A : Type 0} (q : A → Bool) (xs : List A) (y : A) → q y ≡ false → find q (xs ++ y ∷ []) ≡ find q xs
find_past_new q [] y off = rw off refl
find_past_new q (x ∷ xs) y off = ap (λ rest. cond (q x) (Some x) rest) (find_past_new q xs y off)

-- the one found, changed
pub find_changed : {A : Type 0} (p : A → Bool) (f : A → A) → ((x : A) → p (f x) ≡ p x) → (xs : List A) (a : A) → find p xs ≡ Some a
    → find p (changed_where p f xs) ≡ Some (f a)
find_changed p f same [] a h = absurd (cc)
find_changed p f same (x ∷ xs) a h = at (λ e. find_changed p f same xs a e) (p x) refl h
  where
    at : (find p xs ≡ Some a → find p (changed_where p f xs) ≡ Some (f a)) → (b : Bool) → p x ≡ b → cond b (Some x) (find p xs) ≡ Some a
        → cond (p (if b then f x else x)) (Some (if b then f x else x)) (find p (changed_where p f xs)) ≡ Some (f a)
    at rest true e h = let is : x ≡ a = cc in rw (same x ∙ e) (ap (λ y. Some (f y)) is)
    at rest false e h = rw e (rest h)

-- what no changed element passes, before and after
pub find_past_changed : {A : Type 0} (q p : A → Bool) (f : A → A) → ((x : A) → p x ≡ true → q x ≡ false) → ((x : A) → p x ≡ true → q (f x) ≡ false)
    → (xs : List A) → find q (changed_where p f xs) ≡ find q xs
find_past_changed q p f before later [] = refl
find_past_changed q p f before later (x ∷ xs) = at (find_past_changed q p f before later xs) (p x) refl
  where
    at : find q (changed_where p f xs) ≡ find q xs → (b : Bool) → p x ≡ b
        → cond (q (if b then f x else x)) (Some (if b then f x else x)) (find q (changed_where p f xs)) ≡ cond (q x) (Some x) (find q xs)
    at rest true e = rw (later x e, before x e) rest
    at rest false e = ap (λ found. cond (q x) (Some x) found) rest

-- none of those without
pub find_without : {A : Type 0} (p : A → Bool) (xs : List A) → find p (without p xs) ≡ None
find_without p [] = refl
find_without p (x ∷ xs) = at (find_without p xs) (p x) refl
  where
    at : find p (without p xs) ≡ None → (b : Bool) → p x ≡ b → find p (cond (not b) (x ∷ without p xs) (without p xs)) ≡ None
    at rest true e = rest
    at rest false e = rw e rest

-- what no left out element passes
pub find_past_without : {A : Type 0} (q p : A → Bool) → ((x : A) → p x ≡ true → q x ≡ false) → (xs : List A) → find q (without p xs) ≡ find q xs
find_past_without q p off [] = refl
find_past_without q p off (x ∷ xs) = at (find_past_without q p off xs) (p x) refl
  where
    at : find q (without p xs) ≡ find q xs → (b : Bool) → p x ≡ b → find q (cond (not b) (x ∷ without p xs) (without p xs)) ≡ cond (q x) (Some x) (find q xs)
    at rest true e = rw (off x e) rest
    at rest false e = ap (λ found. cond (q x) (Some x) found) rest

-- an element that is changed so that it passes, where none passed
pub find_moved : {A : Type 0} (q p : A → Bool) (f : A → A) → ((x : A) → p x ≡ true → q (f x) ≡ true) → (xs : List A) (a : A) → find q xs ≡ None → find p xs ≡ Some a
    → find q (changed_where p f xs) ≡ Some (f a)
find_moved q p f passes [] a none h = absurd (cc)
find_moved q p f passes (x ∷ xs) a none h = at (λ e k. find_moved q p f passes xs a e k) (q x) refl none (p x) refl h
  where
    at : (find q xs ≡ None → find p xs ≡ Some a → find q (changed_where p f xs) ≡ Some (f a)) → (c : Bool) → q x ≡ c → cond c (Some x) (find q xs) ≡ None
        → (b : Bool) → p x ≡ b → cond b (Some x) (find p xs) ≡ Some a
        → cond (q (if b then f x else x)) (Some (if b then f x else x)) (find q (changed_where p f xs)) ≡ Some (f a)
    at rest true k none b e h = absurd (cc)
    at rest false k none true e h = let is : x ≡ a = cc in rw (passes x e) (ap (λ y. Some (f y)) is)
    at rest false k none false e h = rw k (rest none h)

-- what no changed element passes any more is found as without them
pub find_changed_without : {A : Type 0} (q p : A → Bool) (f : A → A) → ((x : A) → p x ≡ true → q (f x) ≡ false) → (xs : List A)
    → find q (changed_where p f xs) ≡ find q (without p xs)
find_changed_without q p f off [] = refl
find_changed_without q p f off (x ∷ xs) = at (find_changed_without q p f off xs) (p x) refl
  where
    at : find q (changed_where p f xs) ≡ find q (without p xs) → (b : Bool) → p x ≡ b
        → cond (q (if b then f x else x)) (Some (if b then f x else x)) (find q (changed_where p f xs)) ≡ find q (cond (not b) (x ∷ without p xs) (without p xs))
    at rest true e = rw (off x e) rest
    at rest false e = ap (λ found. cond (q x) (Some x) found) rest

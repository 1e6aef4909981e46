-- What is found in a list whose elements were changed, taken out or followed by others.
use Rattle.std.proofs.Common.{◌≡◌, List, [], ◌∷◌, ◌++◌, Some, None, Bool, true, false, refl, sym, ap, ◌∙◌}
use Rattle.std.specs.Prelude.{cond, if◌then◌else◌, find, not}
use Rattle.std.specs.Option.{option_map}
use Rattle.sn_laws.specs.Moves.{changed_where, without}

-- what was found stays in front of others
pub find_before : {A : Type 0} (p : A → Bool) (xs ys : List A) (a : A) → find p xs ≡ Some a → find p (xs ++ ys) ≡ Some a
find_before p [] ys a h = absurd (cc)
find_before p (x ∷ xs) ys a h = at (λ e. find_before p xs ys a e) (p x) h
  where
    at : (find p xs ≡ Some a → find p (xs ++ ys) ≡ Some a) → (b : Bool) → cond b (Some x) (find p xs) ≡ Some a → cond b (Some x) (find p (xs ++ ys)) ≡ Some a
    at rest true e = e
    at rest false e = rest e

-- where nothing was found, what follows is
pub found_after : {A : Type 0} (p : A → Bool) (xs ys : List A) → find p xs ≡ None → find p (xs ++ ys) ≡ find p ys
found_after p [] ys h = refl
found_after p (x ∷ xs) ys h = at (λ e. found_after p xs ys e) (p x) h
  where
    at : (find p xs ≡ None → find p (xs ++ ys) ≡ find p ys) → (b : Bool) → cond b (Some x) (find p xs) ≡ None → cond b (Some x) (find p (xs ++ ys)) ≡ find p ys
    at rest true e = absurd (cc)
    at rest false e = rest e

-- one more that doesn't pass
pub found_beside : {A : Type 0} (p : A → Bool) (xs : List A) (y : A) → p y ≡ false → find p (xs ++ y ∷ []) ≡ find p xs
found_beside p [] y e = ap (λ b. cond b (Some y) None) e
found_beside p (x ∷ xs) y e = ap (λ found. cond (p x) (Some x) found) (found_beside p xs y e)

-- those that pass are changed, and pass as before
pub found_changed : {A : Type 0} (p : A → Bool) (f : A → A) → ((x : A) → p (f x) ≡ p x) → (xs : List A)
    → find p (changed_where p f xs) ≡ option_map f (find p xs)
found_changed p f same [] = refl
found_changed p f same (x ∷ xs) = at (found_changed p f same xs) (p x) refl
  where
    at : find p (changed_where p f xs) ≡ option_map f (find p xs) → (b : Bool) → p x ≡ b
        → cond (p (if b then f x else x)) (Some (if b then f x else x)) (find p (changed_where p f xs)) ≡ option_map f (cond b (Some x) (find p xs))
    at rest true e = ap (λ b. cond b (Some (f x)) (find p (changed_where p f xs))) (same x ∙ e)
    at rest false e = ap (λ b. cond b (Some x) (find p (changed_where p f xs))) e ∙ rest

-- others are changed, that didn't pass and don't
pub found_apart : {A : Type 0} (p q : A → Bool) (f : A → A) → ((x : A) → q x ≡ true → p x ≡ false) → ((x : A) → q x ≡ true → p (f x) ≡ false)
    → (xs : List A) → find p (changed_where q f xs) ≡ find p xs
found_apart p q f was is [] = refl
found_apart p q f was is (x ∷ xs) = at (found_apart p q f was is xs) (q x) refl
  where
    at : find p (changed_where q f xs) ≡ find p xs → (b : Bool) → q x ≡ b
        → cond (p (if b then f x else x)) (Some (if b then f x else x)) (find p (changed_where q f xs)) ≡ cond (p x) (Some x) (find p xs)
    at rest true e =
        ap (λ b. cond b (Some (f x)) (find p (changed_where q f xs))) (is x e) ∙ rest ∙ sym (ap (λ b. cond b (Some x) (find p xs)) (was x e))
    at rest false e = ap (λ found. cond (p x) (Some x) found) rest

-- those that pass are changed, and pass no more
pub found_gone : {A : Type 0} (p : A → Bool) (f : A → A) → ((x : A) → p x ≡ true → p (f x) ≡ false) → (xs : List A) → find p (changed_where p f xs) ≡ None
found_gone p f is [] = refl
found_gone p f is (x ∷ xs) = at (found_gone p f is xs) (p x) refl
  where
    at : find p (changed_where p f xs) ≡ None → (b : Bool) → p x ≡ b
        → cond (p (if b then f x else x)) (Some (if b then f x else x)) (find p (changed_where p f xs)) ≡ None
    at rest true e = ap (λ b. cond b (Some (f x)) (find p (changed_where p f xs))) (is x e) ∙ rest
    at rest false e = ap (λ b. cond b (Some x) (find p (changed_where p f xs))) e ∙ rest

-- none passed; others are changed so that they pass
pub found_come : {A : Type 0} (p q : A → Bool) (f : A → A) → ((x : A) → q x ≡ true → p (f x) ≡ true) → (xs : List A) → find p xs ≡ None
    → find p (changed_where q f xs) ≡ option_map f (find q xs)
found_come p q f is [] none = refl
found_come p q f is (x ∷ xs) none = at (λ e. found_come p q f is xs e) (p x) (q x) refl refl none
  where
    at : (find p xs ≡ None → find p (changed_where q f xs) ≡ option_map f (find q xs)) → (c b : Bool) → p x ≡ c → q x ≡ b → cond c (Some x) (find p xs) ≡ None
        → cond (p (if b then f x else x)) (Some (if b then f x else x)) (find p (changed_where q f xs)) ≡ option_map f (cond b (Some x) (find q xs))
    at rest true b k e n = absurd (cc)
    at rest false true k e n = ap (λ d. cond d (Some (f x)) (find p (changed_where q f xs))) (is x e)
    at rest false false k e n = ap (λ d. cond d (Some x) (find p (changed_where q f xs))) k ∙ rest n

-- those that pass are taken out
pub found_without : {A : Type 0} (p : A → Bool) (xs : List A) → find p (without p xs) ≡ None
found_without p [] = refl
found_without p (x ∷ xs) = at (found_without p xs) (p x) refl
  where
    at : find p (without p xs) ≡ None → (b : Bool) → p x ≡ b → find p (cond (not b) (x ∷ without p xs) (without p xs)) ≡ None
    at rest true e = rest
    at rest false e = ap (λ b. cond b (Some x) (find p (without p xs))) e ∙ rest

-- others are taken out
pub found_still : {A : Type 0} (p q : A → Bool) → ((x : A) → q x ≡ true → p x ≡ false) → (xs : List A) → find p (without q xs) ≡ find p xs
found_still p q was [] = refl
found_still p q was (x ∷ xs) = at (found_still p q was xs) (q x) refl
  where
    at : find p (without q xs) ≡ find p xs → (b : Bool) → q x ≡ b
        → find p (cond (not b) (x ∷ without q xs) (without q xs)) ≡ cond (p x) (Some x) (find p xs)
    at rest true e = rest ∙ sym (ap (λ b. cond b (Some x) (find p xs)) (was x e))
    at rest false e = ap (λ found. cond (p x) (Some x) found) rest

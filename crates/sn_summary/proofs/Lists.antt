-- Tests, and lists of which some elements change.
use Rattle.std.proofs.Common.{◌≡◌, ◌⊎◌, suc, List, [], ◌∷◌, ◌++◌, length, Bool, true, false, refl, sym, ap, ◌∙◌, inl, inr, ⊎_elim}
use Rattle.std.specs.Prelude.{◌||◌, if◌then◌else◌}
use Rattle.std.specs.List.{list_any}
use Rattle.sn_laws.specs.Each.{Each, One}
use Rattle.sn_laws.specs.Moves.{changed_where}

or_right : (b c : Bool) → c ≡ true → (b || c) ≡ true
or_right true c k = refl
or_right false c k = k

-- what holds of all that are there holds of each
pub each_of : {A : Type 0} (P : A → Type 0) (xs : List A) → ((x : A) → One (λ y. y ≡ x) xs → P x) → Each P xs
each_of P [] f = tt
each_of P (x ∷ xs) f = (f x (inl refl), each_of P xs (λ y e. f y (inr e)))

pub any_of : {A : Type 0} (p : A → Bool) (xs : List A) (a : A) → p a ≡ true → One (λ x. x ≡ a) xs → list_any p xs ≡ true
any_of p [] a h one = absurd one
any_of p (x ∷ xs) a h one =
    ⊎_elim (λ e. ap (λ b. b || list_any p xs) (ap p e ∙ h)) (λ e. or_right (p x) (list_any p xs) (any_of p xs a h e)) one

pub one_split : {A : Type 0} (P : A → Type 0) (xs ys : List A) → One P (xs ++ ys) → One P xs ⊎ One P ys
one_split P [] ys h = inr h
one_split P (x ∷ xs) ys h = ⊎_elim (λ e. inl (inl e)) (λ e. ⊎_elim (λ f. inl (inr f)) (λ f. inr f) (one_split P xs ys e)) h

pub one_last : {A : Type 0} (P : A → Type 0) (x : A) → One P (x ∷ []) → P x
one_last P x h = ⊎_elim (λ e. e) (λ e. absurd e) h

pub one_front : {A : Type 0} (P : A → Type 0) (xs ys : List A) → One P xs → One P (xs ++ ys)
one_front P [] ys h = absurd h
one_front P (x ∷ xs) ys h = ⊎_elim (λ e. inl e) (λ e. inr (one_front P xs ys e)) h

-- one that is there afterwards was there, or comes of one that was
pub one_came : {A : Type 0} (q : A → Bool) (f : A → A) (xs : List A) (b : A) → One (λ y. y ≡ b) (changed_where q f xs)
    → (x : A) × One (λ y. y ≡ x) xs × (((q x ≡ false) × (b ≡ x)) ⊎ ((q x ≡ true) × (b ≡ f x)))
one_came q f [] b h = absurd h
one_came q f (x ∷ xs) b h =
    ⊎_elim (λ e. (x, inl refl, at (q x) refl e)) (λ e. let rest = one_came q f xs b e in (rest.0, inr rest.1, rest.2)) h
  where
    at : (t : Bool) → q x ≡ t → (if t then f x else x) ≡ b → ((q x ≡ false) × (b ≡ x)) ⊎ ((q x ≡ true) × (b ≡ f x))
    at true k e = inr (k, sym e)
    at false k e = inl (k, sym e)

-- one that was there is there afterwards, as it has become
pub one_goes : {A : Type 0} (q : A → Bool) (f : A → A) (xs : List A) (x : A) → One (λ y. y ≡ x) xs
    → One (λ y. y ≡ (if q x then f x else x)) (changed_where q f xs)
one_goes q f [] x h = absurd h
one_goes q f (z ∷ zs) x h = ⊎_elim (λ e. inl (ap (λ y. if q y then f y else y) e)) (λ e. inr (one_goes q f zs x e)) h

pub length-changed : {A : Type 0} (q : A → Bool) (f : A → A) (xs : List A) → length (changed_where q f xs) ≡ length xs
length-changed q f [] = refl
length-changed q f (x ∷ xs) = ap (λ n. suc n) (length-changed q f xs)

-- Elements of lists.
use Rattle.std.proofs.Common.{◌≡◌, List, [], ◌∷◌, ◌++◌, refl, ap, subst, inl, inr, ⊎_elim}
use Rattle.sn_laws.specs.Each.{Each, One}

-- a list parts at one that is there
pub split_at : {A : Type 0} (x : A) (xs : List A) → One (λ y. y ≡ x) xs → (before : List A) × (later : List A) × (xs ≡ before ++ x ∷ later)
split_at x [] h = absurd h
split_at x (y ∷ ys) h =
    ⊎_elim (λ e. ([], ys, ap (λ z. z ∷ ys) e))
    (λ e. let rest = split_at x ys e in (y ∷ rest.0, rest.1, ap (λ zs. y ∷ zs) rest.2)) h

-- what holds of each holds of one that is there
pub each_one : {A : Type 0} (P : A → Type 0) (xs : List A) (a : A) → Each P xs → One (λ x. x ≡ a) xs → P a
each_one P [] a h one = absurd one
each_one P (x ∷ xs) a h one = ⊎_elim (λ e. subst P e h.0) (λ e. each_one P xs a h.1 e) one

-- what holds of all that are there holds of each
pub one_each : {A : Type 0} (P : A → Type 0) (xs : List A) → ((x : A) → One (λ y. y ≡ x) xs → P x) → Each P xs
one_each P [] f = tt
one_each P (x ∷ xs) f = (f x (inl refl), one_each P xs (λ y e. f y (inr e)))

pub each_unit : {A : Type 0} (xs : List A) → Each (λ (x : A). Unit {0}) xs
each_unit [] = tt
each_unit (x ∷ xs) = (tt, each_unit xs)

pub one_there_last : {A : Type 0} (xs : List A) (x : A) → One (λ y. y ≡ x) (xs ++ x ∷ [])
one_there_last [] x = inl refl
one_there_last (y ∷ ys) x = inr (one_there_last ys x)

-- Lists of which some elements change, or one comes last.
use Rattle.std.proofs.Common.{◌≡◌, ◌≢◌, ◌⊎◌, List, [], ◌∷◌, ◌++◌, Some, Bool, true, false, refl, sym, ap, ◌∙◌, subst, inl, inr, ⊎_elim}
use Rattle.std.specs.Prelude.{cond, if◌then◌else◌, find, map}
use Rattle.sn_laws.specs.Each.{Each, One}
use Rattle.sn_laws.specs.Lookups.{Bytes}
use Rattle.sn_laws.specs.Moves.{changed_where}
use Rattle.sn_laws.specs.Reached.{AllDiffer}

-- ---- each and one

pub each_more : {A : Type 0} (P : A → Type 0) (xs : List A) (a : A) → Each P xs → P a → Each P (xs ++ a ∷ [])
each_more P [] a h k = (k, tt)
each_more P (x ∷ xs) a h k = (h.0, each_more P xs a h.1 k)

pub each_weaker : {A : Type 0} (P Q : A → Type 0) → ((x : A) → P x → Q x) → (xs : List A) → Each P xs → Each Q xs
each_weaker P Q f [] h = tt
each_weaker P Q f (x ∷ xs) h = (f x h.0, each_weaker P Q f xs h.1)

-- what holds of each holds of one that is there
pub each_one : {A : Type 0} (P : A → Type 0) (xs : List A) (a : A) → Each P xs → One (λ x. x ≡ a) xs → P a
each_one P [] a h one = absurd one
each_one P (x ∷ xs) a h one = ⊎_elim (λ e. subst P e h.0) (λ e. each_one P xs a h.1 e) one

-- what holds of all that are there holds of each
pub one_each : {A : Type 0} (P : A → Type 0) (xs : List A) → ((x : A) → One (λ y. y ≡ x) xs → P x) → Each P xs
one_each P [] f = tt
one_each P (x ∷ xs) f = (f x (inl refl), one_each P xs (λ y e. f y (inr e)))

pub one_weaker : {A : Type 0} (P Q : A → Type 0) → ((x : A) → P x → Q x) → (xs : List A) → One P xs → One Q xs
one_weaker P Q f [] h = absurd h
one_weaker P Q f (x ∷ xs) h = ⊎_elim (λ e. inl (f x e)) (λ e. inr (one_weaker P Q f xs e)) h

-- one that is there, of which the property holds, is one of which it holds
pub one_of : {A : Type 0} (P : A → Type 0) (xs : List A) (a : A) → One (λ x. x ≡ a) xs → P a → One P xs
one_of P xs a one h = one_weaker (λ x. x ≡ a) P (λ x e. subst P (sym e) h) xs one

-- no element has what one has
pub none_one : {A : Type 0} (P : A → Type 0) (xs : List A) → Each (λ x. ¬ (P x)) xs → One P xs → ⊥
none_one P [] h one = one
none_one P (x ∷ xs) h one = ⊎_elim h.0 (λ e. none_one P xs h.1 e) one

pub one_split : {A : Type 0} (P : A → Type 0) (xs ys : List A) → One P (xs ++ ys) → One P xs ⊎ One P ys
one_split P [] ys h = inr h
one_split P (x ∷ xs) ys h = ⊎_elim (λ e. inl (inl e)) (λ e. ⊎_elim (λ f. inl (inr f)) (λ f. inr f) (one_split P xs ys e)) h

pub one_last : {A : Type 0} (P : A → Type 0) (x : A) → One P (x ∷ []) → P x
one_last P x h = ⊎_elim (λ e. e) (λ e. absurd e) h

pub one_front : {A : Type 0} (P : A → Type 0) (xs ys : List A) → One P xs → One P (xs ++ ys)
one_front P [] ys h = absurd h
one_front P (x ∷ xs) ys h = ⊎_elim (λ e. inl e) (λ e. inr (one_front P xs ys e)) h

-- ---- some elements change

-- what a change of some elements keeps holds of each afterwards
pub each_changed : {A : Type 0} (P : A → Type 0) (q : A → Bool) (f : A → A) (xs : List A) → Each P xs
    → ((x : A) → One (λ y. y ≡ x) xs → q x ≡ true → P x → P (f x)) → Each P (changed_where q f xs)
each_changed P q f [] h g = tt
each_changed P q f (x ∷ xs) h g = (at (q x) refl, each_changed P q f xs h.1 (λ y e. g y (inr e)))
  where
    at : (b : Bool) → q x ≡ b → P (if b then f x else x)
    at true e = g x (inl refl) e h.0
    at false e = h.0

-- what holds of each afterwards held before, where a change takes it from none
pub each_unchanged : {A : Type 0} (P : A → Type 0) (q : A → Bool) (f : A → A) → ((x : A) → P (f x) → P x) → (xs : List A)
    → Each P (changed_where q f xs) → Each P xs
each_unchanged P q f g [] h = tt
each_unchanged P q f g (x ∷ xs) h = (at (q x) h.0, each_unchanged P q f g xs h.1)
  where
    at : (b : Bool) → P (if b then f x else x) → P x
    at true e = g x e
    at false e = e

-- one that is there was there, or comes of one that was
pub one_changed : {A : Type 0} (q : A → Bool) (f : A → A) (xs : List A) (b : A) → One (λ y. y ≡ b) (changed_where q f xs)
    → (x : A) × One (λ y. y ≡ x) xs × ((b ≡ x) ⊎ ((q x ≡ true) × (b ≡ f x)))
one_changed q f [] b h = absurd h
one_changed q f (x ∷ xs) b h =
    ⊎_elim (λ e. (x, inl refl, at (q x) refl e)) (λ e. let rest = one_changed q f xs b e in (rest.0, inr rest.1, rest.2)) h
  where
    at : (t : Bool) → q x ≡ t → (if t then f x else x) ≡ b → (b ≡ x) ⊎ ((q x ≡ true) × (b ≡ f x))
    at true k e = inr (k, sym e)
    at false k e = inl (sym e)

-- what is found, where the change leaves what is looked for
pub find_changed : {A : Type 0} (p q : A → Bool) (f : A → A) → ((x : A) → p (f x) ≡ p x) → (xs : List A) (a : A) → find p xs ≡ Some a
    → find p (changed_where q f xs) ≡ Some (if q a then f a else a)
find_changed p q f same [] a h = absurd (cc)
find_changed p q f same (x ∷ xs) a h =
    ap (λ b. cond b (Some (if q x then f x else x)) (find p (changed_where q f xs))) (passes (q x))
    ∙ at (λ e. find_changed p q f same xs a e) (p x) h
  where
    passes : (b : Bool) → p (if b then f x else x) ≡ p x
    passes true = same x
    passes false = refl

    at : (find p xs ≡ Some a → find p (changed_where q f xs) ≡ Some (if q a then f a else a)) → (b : Bool)
        → cond b (Some x) (find p xs) ≡ Some a
        → cond b (Some (if q x then f x else x)) (find p (changed_where q f xs)) ≡ Some (if q a then f a else a)
    at rest true e = let is : x ≡ a = cc in ap (λ y. Some (if q y then f y else y)) is
    at rest false e = rest e

-- what a change leaves stays in the whole list
pub map_changed : {A B : Type 0} (g : A → B) (q : A → Bool) (f : A → A) → ((x : A) → g (f x) ≡ g x) → (xs : List A)
    → map g (changed_where q f xs) ≡ map g xs
map_changed g q f same [] = refl
map_changed g q f same (x ∷ xs) = ap (λ y. y ∷ map g (changed_where q f xs)) (at (q x)) ∙ ap (λ ys. g x ∷ ys) (map_changed g q f same xs)
  where
    at : (b : Bool) → g (if b then f x else x) ≡ g x
    at true = same x
    at false = refl

pub map_more : {A B : Type 0} (g : A → B) (xs : List A) (y : A) → map g (xs ++ y ∷ []) ≡ map g xs ++ g y ∷ []
map_more g [] y = refl
map_more g (x ∷ xs) y = ap (λ rest. g x ∷ rest) (map_more g xs y)

pub each_mapped : {A B : Type 0} (g : A → B) (P : B → Type 0) (xs : List A) → Each P (map g xs) → Each (λ x. P (g x)) xs
each_mapped g P [] h = tt
each_mapped g P (x ∷ xs) h = (h.0, each_mapped g P xs h.1)

pub mapped_each : {A B : Type 0} (g : A → B) (P : B → Type 0) (xs : List A) → Each (λ x. P (g x)) xs → Each P (map g xs)
mapped_each g P [] h = tt
mapped_each g P (x ∷ xs) h = (h.0, mapped_each g P xs h.1)

-- ---- lists of which no two are the same

pub differ_more : (xs : List Bytes) (z : Bytes) → AllDiffer xs → Each (λ y. y ≢ z) xs → AllDiffer (xs ++ z ∷ [])
differ_more [] z h k = (tt, tt)
differ_more (x ∷ xs) z h k = (each_more (λ y. y ≢ x) xs z h.0 (λ e. k.0 (sym e)), differ_more xs z h.1 k.1)

-- of two that are there and go by one name, each is the other
pub differ_same : {A : Type 0} (g : A → Bytes) (xs : List A) (a b : A) → AllDiffer (map g xs) → One (λ x. x ≡ a) xs → One (λ x. x ≡ b) xs
    → g a ≡ g b → a ≡ b
differ_same g [] a b h one other same = absurd one
differ_same {A = A} g (x ∷ xs) a b h one other same =
    ⊎_elim (λ e. ⊎_elim (λ k. sym e ∙ k) (λ k. absurd (apart b k (sym same ∙ ap g (sym e)))) other)
    (λ e. ⊎_elim (λ k. absurd (apart a e (same ∙ ap g (sym k)))) (λ k. differ_same g xs a b h.1 e k same) other) one
  where
    apart : (c : A) → One (λ y. y ≡ c) xs → g c ≡ g x → ⊥
    apart c there is = each_one (λ y. g y ≢ g x) xs c (each_mapped g (λ n. n ≢ g x) xs h.0) there is

-- What holds of each element of a list, by its elements.
use Rattle.std.proofs.Common.{◌≡◌, ◌≢◌, ℕ, suc, List, [], ◌∷◌, ◌++◌, map, Some, refl, subst, ⊎_elim, arith}
use Rattle.std.proofs.lemmas.List.Elements.{Contains-append_cases, Contains-append_left, Contains-append_right, Contains-push, Contains-push_cases}
use Rattle.std.proofs.lemmas.Option.{slice_get_within}
use Rattle.std.specs.List.{Contains}
use Rattle.std.specs.Prelude.{slice_get, take}
use Rattle.sn_conflict.specs.Lists.{AllRight}
use Rattle.sn_laws.specs.Each.{Each, One}

pub each_map : {A B : Type 0} (f : A → B) (P : B → Type 0) (xs : List A) → Each (λ (x : A). P (f x)) xs → Each P (map f xs)
each_map f P [] h = tt
each_map f P (x ∷ xs) h = (h.0, each_map f P xs h.1)

pub each_both : {A : Type 0} (P : A → Type 0) (xs ys : List A) → Each P xs → Each P ys → Each P (xs ++ ys)
each_both P [] ys h k = k
each_both P (x ∷ xs) ys h k = (h.0, each_both P xs ys h.1 k)

each_got : {A : Type 0} (P : A → Type 0) (xs : List A) → ((k : ℕ) (x : A) → slice_get xs k ≡ Some x → P x) → Each P xs
each_got P [] h = tt
each_got P (x ∷ xs) h = (h 0 x refl, each_got P xs (λ k y e. h (suc k) y e))

-- what is right by those before it has what follows of that
pub each_right : {A : Type 0} (Right : List A → A → Type 0) (P : A → Type 0) → ((before : List A) (x : A) → Right before x → P x) → (xs : List A) → AllRight Right xs
    → Each P xs
each_right Right P f xs right = each_got P xs (λ k x e. f (take k xs) x (right k x (slice_get_within xs k x e) e))

at_head : {A : Type 0} (x : A) (xs : List A) → Contains (x ∷ xs) x
at_head x xs = Contains-append_left (x ∷ []) xs x (Contains-push [] x)

behind_head : {A : Type 0} (y : A) (xs : List A) (x : A) → Contains xs x → Contains (y ∷ xs) x
behind_head y xs x has = Contains-append_right (y ∷ []) xs x has

none_of : {A : Type 0} (x : A) → ¬ (Contains [] x)
none_of x has = absurd (omega (arith, has.1))

pub each_contained : {A : Type 0} (P : A → Type 0) (xs : List A) → ((x : A) → Contains xs x → P x) → Each P xs
each_contained P [] f = tt
each_contained P (x ∷ xs) f = (f x (at_head x xs), each_contained P xs (λ y has. f y (behind_head x xs y has)))

pub of_each : {A : Type 0} (P : A → Type 0) (xs : List A) → Each P xs → (x : A) → Contains xs x → P x
of_each P [] h x has = absurd (none_of x has)
of_each P (y ∷ xs) h x has =
    ⊎_elim
    (λ front. ⊎_elim (λ none. absurd (none_of x none)) (λ same. subst P same h.0) (Contains-push_cases [] y x front))
    (λ behind. of_each P xs h.1 x behind) (Contains-append_cases (y ∷ []) xs x has)

-- of a list of elements, none of which has this name
pub each_apart : {A B : Type 0} (name : A → B) (b : B) (xs : List A) → ¬ (Contains (map name xs) b) → Each (λ (x : A). name x ≢ b) xs
each_apart name b [] none = tt
each_apart name b (x ∷ xs) none = (
  λ e. none (subst (λ y. Contains (map name (x ∷ xs)) y) e (at_head (name x) (map name xs))),
  each_apart name b xs (λ has. none (behind_head (name x) (map name xs) b has)),
)

pub each_unmap : {A B : Type 0} (f : A → B) (P : B → Type 0) (xs : List A) → Each P (map f xs) → Each (λ (x : A). P (f x)) xs
each_unmap f P [] h = tt
each_unmap f P (x ∷ xs) h = (h.0, each_unmap f P xs h.1)

-- of one of a list
pub this_one : {A : Type 0} (P : A → Type 0) (xs : List A) (x : A) → Each P xs → One (λ (y : A). y ≡ x) xs → P x
this_one P [] x each among = absurd among
this_one P (y ∷ xs) x each among = ⊎_elim (λ (here : y ≡ x). subst P here each.0) (λ behind. this_one P xs x each.1 behind) among

-- Places in lists, and what is done at one.
use Rattle.std.proofs.Common.{◌≡◌, ◌≢◌, ℕ, zero, suc, ◌+◌, ◌<◌, List, [], ◌∷◌, ◌++◌, length, take, get_or, Some, refl, sym, ap, ◌∙◌, ⊎_elim, arith}
use Rattle.std.specs.Prelude.{map, slice_get, slice_set}
use Rattle.std.proofs.lemmas.List.{take_more}
use Rattle.std.proofs.lemmas.Option.{slice_get_within, slice_get-get_or}
use Rattle.sn_laws.specs.Each.{One}

-- who is among some has a place
pub place_of : {A : Type 0} (xs : List A) (a : A) → One (λ x. x ≡ a) xs → (n : ℕ) × (slice_get xs n ≡ Some a)
place_of [] a one = absurd one
place_of {A = A} (x ∷ xs) a one =
    ⊎_elim (λ (e : x ≡ a). here e) (λ (later : One (λ (y : A). y ≡ a) xs). there (place_of xs a later)) one
  where
    here : x ≡ a → (n : ℕ) × (slice_get (x ∷ xs) n ≡ Some a)
    here e = (zero, ap (λ (y : A). Some y) e)

    there : (n : ℕ) × (slice_get xs n ≡ Some a) → (n : ℕ) × (slice_get (x ∷ xs) n ≡ Some a)
    there found = (suc found.0, found.1)

-- a place within a list has someone
pub at_place : {A : Type 0} (xs : List A) (n : ℕ) → n < length xs → (a : A) × (slice_get xs n ≡ Some a)
at_place [] n lt = absurd (omega arith)
at_place (x ∷ xs) zero lt = (x, refl)
at_place (x ∷ xs) (suc n) lt = at_place xs n (omega arith)

pub read_at : {A : Type 0} (xs : List A) (n : ℕ) (a d : A) → slice_get xs n ≡ Some a → get_or xs n d ≡ a
read_at xs n a d e =
    let lt : n < length xs = slice_get_within xs n a e in
    let got : slice_get xs n ≡ Some (get_or xs n d) = slice_get-get_or xs n d lt in
    cc

-- one more from the front
pub taken_at : {A : Type 0} (xs : List A) (n : ℕ) (a : A) → slice_get xs n ≡ Some a → take (n + 1) xs ≡ take n xs ++ a ∷ []
taken_at {A = A} xs n a e =
    let lt : n < length xs = slice_get_within xs n a e in
    take_more xs n a lt ∙ ap (λ (x : A). take n xs ++ x ∷ []) (read_at xs n a a e)

pub taken : {A : Type 0} (xs : List A) (n : ℕ) (a : A) → n < length xs → a ≡ get_or xs n a → take (n + 1) xs ≡ take n xs ++ a ∷ []
taken {A = A} xs n a lt at = take_more xs n a lt ∙ ap (λ (x : A). take n xs ++ x ∷ []) (sym at)

-- lists made from the same ones

pub map_same : {A B : Type 0} (f g : A → B) (xs : List A) → ((n : ℕ) (x : A) → slice_get xs n ≡ Some x → f x ≡ g x) → map f xs ≡ map g xs
map_same f g [] h = refl
map_same {B = B} f g (x ∷ xs) h =
    ap (λ (y : B). y ∷ map f xs) (h zero x refl) ∙ ap (λ (ys : List B). g x ∷ ys) (map_same f g xs (λ n y e. h (suc n) y e))

pub map_at : {A B : Type 0} (f : A → B) (xs : List A) (n : ℕ) (a : A) (d : B) → slice_get xs n ≡ Some a → get_or (map f xs) n d ≡ f a
map_at f [] n a d e = absurd (cc)
map_at f (x ∷ xs) zero a d e = let same : x ≡ a = cc in ap f same
map_at f (x ∷ xs) (suc n) a d e = map_at f xs n a d e

-- with another one at one place
pub map_set : {A B : Type 0} (f g : A → B) (xs : List A) (n : ℕ) (a : A) (v : B) → slice_get xs n ≡ Some a → v ≡ g a
    → ((m : ℕ) (x : A) → m ≢ n → slice_get xs m ≡ Some x → f x ≡ g x) → slice_set (map f xs) n v ≡ map g xs
map_set f g [] n a v e is other = absurd (cc)
map_set {A = A} {B = B} f g (x ∷ xs) zero a v e is other =
    let same : x ≡ a = cc in
    ap (λ (y : B). y ∷ map f xs) (is ∙ ap g (sym same))
    ∙ ap (λ (ys : List B). g x ∷ ys) (map_same f g xs (λ n y k. other (suc n) y (λ (no : suc n ≡ zero). absurd (omega (arith, no))) k))
map_set {A = A} {B = B} f g (x ∷ xs) (suc n) a v e is other =
    ap (λ (y : B). y ∷ slice_set (map f xs) n v) (other zero x (λ (no : zero ≡ suc n). absurd (omega (arith, no))) refl)
    ∙ ap (λ (ys : List B). g x ∷ ys)
    (map_set f g xs n a v e is (λ m y ne k. other (suc m) y (λ (no : suc m ≡ suc n). ne (omega (arith, no))) k))

-- Lists of texts.
use Rattle.std.proofs.Common.{rules, arith, ◌≡◌, ◌≤◌, ◌<◌, ◌+◌, ◌-◌, ◌==◌, true, false, drop, get_or, Some, slice_get, length-drop, add-one, ℕ, List, [], ◌∷◌, ◌++◌, length, map, ap, sym, ◌∙◌, refl, take, zero, suc}
use Rattle.std.proofs.lemmas.List.{append-nil, map-append, nil_from_length}
use Rattle.std.specs.List.{join_with_byte, flat_map}
use Rattle.std.proofs.Math.Seq.{take-suc}
use Rattle.sn_script.specs.Grammar.{Word}
use Rattle.sn_script.specs.Scripts.{without_last}

drops : (xs : List Word) → without_last (xs ++ [] ∷ []) ≡ xs
drops [] = refl
drops ([] ∷ []) = refl
drops ((c ∷ w) ∷ []) = refl
drops ([] ∷ y ∷ ys) = ap (λ zs. [] ∷ zs) (drops (y ∷ ys))
drops ((c ∷ w) ∷ y ∷ ys) = ap (λ zs. (c ∷ w) ∷ zs) (drops (y ∷ ys))

keeps : (xs : List Word) (b : ℕ) (x : Word) → without_last (xs ++ (b ∷ x) ∷ []) ≡ xs ++ (b ∷ x) ∷ []
keeps [] b x = refl
keeps ([] ∷ []) b x = refl
keeps ((c ∷ w) ∷ []) b x = refl
keeps ([] ∷ y ∷ ys) b x = ap (λ zs. [] ∷ zs) (keeps (y ∷ ys) b x)
keeps ((c ∷ w) ∷ y ∷ ys) b x = ap (λ zs. (c ∷ w) ∷ zs) (keeps (y ∷ ys) b x)

size : {A : Type 0} (f : A → Word) (xs : List A) → length xs ≡ length (map f xs)
size f [] = refl
size f (x ∷ xs) = ap suc (size f xs)

pub is_zero : (n : ℕ) → true ≡ (n == 0) → n ≡ 0
is_zero n e = search (rules, e)

pub is_not_zero : (n : ℕ) → false ≡ (n == 0) → n ≡ 0 → ⊥
is_not_zero n e none = search (rules, e, none)

pub take_all : {A : Type 0} (n : ℕ) (xs : List A) → length xs ≤ n → take n xs ≡ xs
take_all zero [] h = refl
take_all zero (x ∷ xs) h = absurd (omega (arith, h))
take_all (suc n) [] h = refl
take_all (suc n) (x ∷ xs) h = ap (λ ys. x ∷ ys) (take_all n xs (omega (arith, h)))

pub rest_is : {A : Type 0} (n : ℕ) (w : List A) → take (length w - n) (drop n w) ≡ drop n w
rest_is n w = take_all (length w - n) (drop n w) (omega (arith, length-drop n w))

pub length_front : {A : Type 0} (n : ℕ) (xs : List A) → n ≤ length xs → length (take n xs) ≡ n
length_front zero xs h = refl
length_front (suc n) [] h = absurd (omega (arith, h))
length_front (suc n) (x ∷ xs) h = ap suc (length_front n xs (omega (arith, h)))

pub get_take : {A : Type 0} (n k : ℕ) (xs : List A) → k < n → slice_get (take n xs) k ≡ slice_get xs k
get_take zero k xs h = absurd (omega (arith, h))
get_take (suc n) k [] h = refl
get_take (suc n) zero (x ∷ xs) h = refl
get_take (suc n) (suc k) (x ∷ xs) h = get_take n k xs (omega (arith, h))

pub get_map : {A : Type 0} (f : A → Word) (xs : List A) (k : ℕ) (d : A) → k < length xs → slice_get (map f xs) k ≡ Some (f (get_or xs k d))
get_map f [] k d h = absurd (omega (arith, h))
get_map f (x ∷ xs) zero d h = refl
get_map f (x ∷ xs) (suc k) d h = get_map f xs k d (omega (arith, h))

pub one_more_text : {A : Type 0} (f : A → Word) (xs : List A) (k : ℕ) (d : A) → k < length xs
    → map f (take (k + 1) xs) ≡ map f (take k xs) ++ f (get_or xs k d) ∷ []
one_more_text f xs k d h =
    ap (λ n. map f (take n xs)) (add-one k) ∙ ap (map f) (take-suc xs k d h) ∙ map-append f (take k xs) (get_or xs k d ∷ [])

pub size_front : {A : Type 0} (f : A → Word) (n : ℕ) (xs : List A) → n ≤ length xs → n ≡ length (map f (take n xs))
size_front f n xs h = sym (length_front n xs h) ∙ size f (take n xs)

shown : {A : Type 0} (f : A → Word) (texts front : List A) (last : A) → texts ≡ front ++ last ∷ [] → map f texts ≡ map f front ++ f last ∷ []
shown f texts front last e = ap (map f) e ∙ map-append f front (last ∷ [])

whole : {A : Type 0} (xs : List A) → take (length xs) xs ≡ xs
whole [] = refl
whole (x ∷ xs) = ap (λ ys. x ∷ ys) (whole xs)

part : {A : Type 0} (xs ys : List A) → take (length xs) (xs ++ ys) ≡ xs
part [] ys = refl
part (x ∷ xs) ys = ap (λ zs. x ∷ zs) (part xs ys)

-- an empty last text goes
pub last_goes : {A : Type 0} (f : A → Word) (texts front : List A) (last : A) → texts ≡ front ++ last ∷ [] → length (f last) ≡ 0
    → take (length front) (map f texts) ≡ without_last (map f texts)
last_goes f texts front last e none =
    let is : map f texts ≡ map f front ++ f last ∷ [] = shown f texts front last e in
    let nil : f last ≡ [] = nil_from_length (f last) none in
    let ends : map f texts ≡ map f front ++ [] ∷ [] = is ∙ ap (λ x. map f front ++ x ∷ []) nil in
    let count : length front ≡ length (map f front) = size f front in
    ap (λ n. take n (map f texts)) count ∙ ap (take (length (map f front))) is ∙ part (map f front) (f last ∷ [])
    ∙ sym (ap without_last ends ∙ drops (map f front))

stays : (xs : List Word) (x : Word) → (length x ≡ 0 → ⊥) → without_last (xs ++ x ∷ []) ≡ xs ++ x ∷ []
stays xs [] some = absurd (some refl)
stays xs (c ∷ x) some = keeps xs c x

-- another last text stays
pub last_stays : {A : Type 0} (f : A → Word) (texts front : List A) (last : A) → texts ≡ front ++ last ∷ [] → (length (f last) ≡ 0 → ⊥)
    → take (length texts) (map f texts) ≡ without_last (map f texts)
last_stays f texts front last e some =
    let is : map f texts ≡ map f front ++ f last ∷ [] = shown f texts front last e in
    ap (λ n. take n (map f texts)) (size f texts) ∙ whole (map f texts)
    ∙ is ∙ sym (ap without_last is ∙ stays (map f front) (f last) some)

pub none_stays : {A : Type 0} (f : A → Word) (texts : List A) → length texts ≡ 0 → take 0 (map f texts) ≡ without_last (map f texts)
none_stays f [] none = refl
none_stays f (x ∷ xs) none = absurd (omega (arith, none))

pub map-take : {A : Type 0} (f : A → Word) (n : ℕ) (xs : List A) → map f (take n xs) ≡ take n (map f xs)
map-take f zero xs = refl
map-take f (suc n) [] = refl
map-take f (suc n) (x ∷ xs) = ap (λ ys. f x ∷ ys) (map-take f n xs)

-- the words, each behind a blank, follow the first
pub joined : {A : Type 0} (f : A → Word) (x : Word) (xs : List A) → x ++ flat_map (λ w. 32 ∷ f w) xs ≡ join_with_byte 32 (x ∷ map f xs)
joined f x [] = append-nil x
joined f x (y ∷ ys) = ap (λ zs. x ++ 32 ∷ zs) (joined f (f y) ys)

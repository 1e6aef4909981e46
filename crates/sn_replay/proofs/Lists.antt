-- Lists: what holds of each element, of one, and of two lists place by place.
use Rattle.std.proofs.Common.{◌≡◌, ◌≢◌, ◌⊎◌, ℕ, zero, suc, List, [], ◌∷◌, ◌++◌, Bool, true, false, Option, Some, None, refl, sym, ap, ◌∙◌, subst, inl, inr}
use Rattle.std.specs.Prelude.{◌||◌, IfErr, IsErrAnd, Result, slice_get}
use Rattle.std.proofs.lemmas.Result.{err_from_is_err_and}
use Rattle.std.specs.List.{AllZip, list_any}
use Rattle.std.specs.Str.{bytes_eq}
use Rattle.sn_laws.proofs.Facts.{same_text}
use Rattle.sn_laws.specs.Each.{One}
use Rattle.sn_laws.specs.Lookups.{Bytes}

-- an error that is handed on
pub handed_on : {T E : Type 0} (P : E → Type 0) (r : Result T E) (e : E) → IsErrAnd r (λ y. y ≡ e) → P e → IfErr r P
handed_on P r e exit h =
    let p = err_from_is_err_and r exit in
    rw p.1 (subst P (sym p.2) h)

pub one_with : {A : Type 0} (P Q : A → Type 0) → ((x : A) → P x → Q x) → (xs : List A) → One P xs → One Q xs
one_with P Q f [] h = absurd h
one_with P Q f (x ∷ xs) (inl h) = inl (f x h)
one_with P Q f (x ∷ xs) (inr h) = inr (one_with P Q f xs h)

pub one_before : {A : Type 0} (P : A → Type 0) (xs ys : List A) → One P xs → One P (xs ++ ys)
one_before P [] ys h = absurd h
one_before P (x ∷ xs) ys (inl h) = inl h
one_before P (x ∷ xs) ys (inr h) = inr (one_before P xs ys h)

pub one_last : {A : Type 0} (P : A → Type 0) (xs : List A) (x : A) → P x → One P (xs ++ x ∷ [])
one_last P [] x h = inl h
one_last P (y ∷ xs) x h = inr (one_last P xs x h)

pub zip_append : {A B : Type 0} (R : A → B → Type 0) (xs us : List A) (ys vs : List B) → AllZip R xs ys → AllZip R us vs → AllZip R (xs ++ us) (ys ++ vs)
zip_append R [] us [] vs h k = k
zip_append R [] us (y ∷ ys) vs h k = absurd h
zip_append R (x ∷ xs) us [] vs h k = absurd h
zip_append R (x ∷ xs) us (y ∷ ys) vs h k = (h.0, zip_append R xs us ys vs h.1 k)

-- what stands at one place of the second list stands for what is there in the first
pub zip_there : {A B : Type 0} (R : A → B → Type 0) (xs : List A) (ys : List B) (place : ℕ) (y : B) → AllZip R xs ys → slice_get ys place ≡ Some y
    → (x : A) × (slice_get xs place ≡ Some x) × R x y
zip_there R [] [] place y h at = absurd (cc)
zip_there R [] (z ∷ ys) place y h at = absurd h
zip_there R (x ∷ xs) [] place y h at = absurd h
zip_there R (x ∷ xs) (z ∷ ys) zero y h at = (x, refl, subst (R x) (let same : z ≡ y = cc in same) h.0)
zip_there R (x ∷ xs) (z ∷ ys) (suc place) y h at = zip_there R xs ys place y h.1 at

pub zip_none : {A B : Type 0} (R : A → B → Type 0) (xs : List A) (ys : List B) (place : ℕ) → AllZip R xs ys → slice_get ys place ≡ None
    → slice_get xs place ≡ None
zip_none R [] [] place h at = refl
zip_none R [] (z ∷ ys) place h at = absurd h
zip_none R (x ∷ xs) [] place h at = absurd h
zip_none R (x ∷ xs) (z ∷ ys) zero h at = absurd (cc)
zip_none R (x ∷ xs) (z ∷ ys) (suc place) h at = zip_none R xs ys place h.1 at

-- what stands at a place is an element
pub one_at : {A : Type 0} (xs : List A) (place : ℕ) (x : A) → slice_get xs place ≡ Some x → One (λ y. y ≡ x) xs
one_at [] place x at = absurd (cc)
one_at (y ∷ xs) zero x at = inl (let same : y ≡ x = cc in same)
one_at (y ∷ xs) (suc place) x at = inr (one_at xs place x at)

-- a name that is found among some is one of them
pub one_named : (names : List Bytes) (name : Bytes) → list_any (λ n. bytes_eq n name) names ≡ true → One (λ n. n ≡ name) names
one_named [] name e = absurd (cc)
one_named (n ∷ names) name e = at (bytes_eq n name) refl (one_named names name)
  where
    at : (b : Bool) → bytes_eq n name ≡ b → (list_any (λ x. bytes_eq x name) names ≡ true → One (λ x. x ≡ name) names) → One (λ x. x ≡ name) (n ∷ names)
    at true same later = inl (same_text n name same)
    at false off later =
        inr (later (sym (ap (λ (b : Bool). b || list_any (λ x. bytes_eq x name) names) off) ∙ e))

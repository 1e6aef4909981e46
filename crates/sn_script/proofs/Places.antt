-- A number and an image, cut at their colon.
use Rattle.std.proofs.Common.{rules, arith, ◌≡◌, ◌<◌, ◌≤◌, ◌+◌, ℕ, List, [], ◌∷◌, ◌++◌, length, get_or, take, drop, Some, None, true, false, ◌==◌, ap, sym, ◌∙◌, subst, refl, position, length-append, suc, Bool, IsTrue, ◌↔◌, nat_lt, if◌then◌else◌, ◌⊎◌, inl, inr}
use Rattle.std.specs.List.{position_or_len}
use Rattle.std.proofs.lemmas.List.{append_cancel_left}
use Rattle.std.proofs.lemmas.List.Quantifiers.{position-Some}
use Rattle.std.proofs.lemmas.List.Sums.{fails_before_first}
use Rattle.std.proofs.Math.ListN.{get_or-append}
use Rattle.std.proofs.Math.Seq.{get_or-append_seam, split_at}
use Rattle.sn_script.specs.Grammar.{IsNumber, IsImage, IsPlace, IsNamed}
use Rattle.sn_script.proofs.Numerals.{digit_below}

absurd_of : IsTrue false → ⊥
absurd_of t = cc

at_colon : (x : ℕ) → (x == 58) ≡ true → x ≡ 58
at_colon x e = search (rules, e)

no_colon_at : (x : ℕ) → (x == 58) ≡ false → x ≡ 58 → ⊥
no_colon_at x e is = search (rules, e, is)

front : (xs : List ℕ) (y : ℕ) (ys : List ℕ) → take (length xs) (xs ++ y ∷ ys) ≡ xs
front [] y ys = refl
front (x ∷ xs) y ys = ap (λ zs. x ∷ zs) (front xs y ys)

back : (xs : List ℕ) (y : ℕ) (ys : List ℕ) → drop (suc (length xs)) (xs ++ y ∷ ys) ≡ ys
back [] y ys = refl
back (x ∷ xs) y ys = back xs y ys

-- behind digits the first colon is the one that follows them
first_colon : (number image : List ℕ) (i : ℕ) → IsNumber number → get_or (number ++ 58 ∷ image) i 0 ≡ 58
    → ((k : ℕ) → k < i → get_or (number ++ 58 ∷ image) k 0 ≡ 58 → ⊥) → i ≡ length number
first_colon number image i is here before =
    let early : i < length number → ⊥ = λ h. (
    let digit = digit_below number i is.digits h in
    let same = get_or-append number (58 ∷ image) 0 i h in
    omega (arith, digit.1, same, here)) in
    let late : length number < i → ⊥ = λ h. before (length number) h (get_or-append_seam number 58 image 0) in
    omega (arith, early, late)

cut : (w : List ℕ) (i : ℕ) → position (λ c. c == 58) w ≡ Some i → IsPlace w → IsNumber (take i w) × IsImage (drop (i + 1) w)
cut w i found (number, image, e, is_number, is_image) =
    let at = position-Some (λ c. c == 58) w i 0 found in
    let here : get_or (number ++ 58 ∷ image) i 0 ≡ 58 = subst (λ t. get_or t i 0 ≡ 58) e (at_colon (get_or w i 0) at.1) in
    let before : (k : ℕ) → k < i → get_or (number ++ 58 ∷ image) k 0 ≡ 58 → ⊥ =
    subst (λ t. (k : ℕ) → k < i → get_or t k 0 ≡ 58 → ⊥) e (λ k h. no_colon_at (get_or w k 0) (at.2 k h)) in
    let place : i ≡ length number = first_colon number image i is_number here before in
    let left : take i w ≡ number = ap (take i) e ∙ ap (λ n. take n (number ++ 58 ∷ image)) place ∙ front number 58 image in
    let next : i + 1 ≡ suc (length number) = omega (arith, place) in
    let right : drop (i + 1) w ≡ image = ap (drop (i + 1)) e ∙ ap (λ n. drop n (number ++ 58 ∷ image)) next ∙ back number 58 image in
    (subst IsNumber (sym left) is_number, subst IsImage (sym right) is_image)

glued : (w : List ℕ) (i : ℕ) → position (λ c. c == 58) w ≡ Some i → IsNumber (take i w) → IsImage (drop (i + 1) w) → IsPlace w
glued w i found is_number is_image =
    let at = position-Some (λ c. c == 58) w i 0 found in
    let here = at_colon (get_or w i 0) at.1 in
    let parts : w ≡ take i w ++ get_or w i 0 ∷ drop (suc i) w = split_at w i 0 at.0 in
    let next : suc i ≡ i + 1 = omega arith in
    (take i w, drop (i + 1) w, parts ∙ ap (λ x. take i w ++ x ∷ drop (suc i) w) here ∙ ap (λ n. take i w ++ 58 ∷ drop n w) next, is_number, is_image)

pub place_at : (w number image : List ℕ) (i : ℕ) (b : Bool) → position (λ c. c == 58) w ≡ Some i → number ≡ take i w → image ≡ drop (i + 1) w
    → (IsTrue b ↔ (IsNumber number × IsImage image)) → IsTrue b ↔ IsPlace w
place_at w number image i b found left right are = (
  λ t. (let both = are.0 t in glued w i found (subst IsNumber left both.0) (subst IsImage right both.1)),
  λ is. (let both = cut w i found is in are.1 (subst IsNumber (sym left) both.0, subst IsImage (sym right) both.1)),
)

past : (a b : ℕ) → (if nat_lt a b then Some a else None) ≡ None → b ≤ a
past a b none = grind (arith, none)

-- without a colon there is no such place
pub no_place : (w : List ℕ) → position (λ c. c == 58) w ≡ None → ¬ (IsPlace w)
no_place w none (number, image, e, is_number, is_image) =
    let seam : get_or w (length number) 0 ≡ 58 = ap (λ t. get_or t (length number) 0) e ∙ get_or-append_seam number 58 image 0 in
    let long = past (position_or_len (λ c. c == 58) w) (length w) none in
    let size : length w ≡ length number + suc (length image) = ap length e ∙ length-append number (58 ∷ image) in
    let early : length number < position_or_len (λ c. c == 58) w = omega (arith, long, size) in
    no_colon_at (get_or w (length number) 0) (fails_before_first (λ c. c == 58) w (length number) 0 early) seam

pub no_place_at : (w : List ℕ) → position (λ c. c == 58) w ≡ None → IsTrue false ↔ IsPlace w
no_place_at w none = (λ t. absurd (absurd_of t), λ is. absurd (no_place w none is))

-- what follows the name is its own
pub after_name : (Form : List ℕ → Type 0) (w name rest : List ℕ) (b : Bool) → w ≡ name ++ rest → (IsTrue b ↔ Form rest) → IsTrue b ↔ IsNamed name Form w
after_name Form w name rest b e are = (
  λ t. (rest, e, are.0 t),
  λ (other, e', form). are.1 (subst Form (append_cancel_left name other rest (sym e' ∙ e)) form),
)

pub no_name : (Form : List ℕ → Type 0) (w name : List ℕ) → ((rest : List ℕ) → w ≡ name ++ rest → ⊥) → IsTrue false ↔ IsNamed name Form w
no_name Form w name never = (λ t. absurd (absurd_of t), λ (rest, e, form). absurd (never rest e))

or_else : {A B : Type 0} (a b : Bool) → (A → IsTrue a) → (B → IsTrue b) → a ≡ false → A ⊎ B → IsTrue b
or_else a b one two none (inl x) = let t : a ≡ true = one x in cc
or_else a b one two none (inr y) = two y

-- the second of two tests decides where the first fails
pub second_decides : {A B : Type 0} (a b : Bool) → (IsTrue a ↔ A) → (IsTrue b ↔ B) → a ≡ false → IsTrue b ↔ (A ⊎ B)
second_decides a b one two none = (λ t. inr (two.0 t), λ either. or_else a b one.1 two.1 none either)

pub first_decides : {A B : Type 0} (a : Bool) → (IsTrue a ↔ A) → a ≡ true → IsTrue a ↔ (A ⊎ B)
first_decides a one some = (λ t. inl (one.0 t), λ either. some)

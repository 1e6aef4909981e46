-- Facts on the fronts of a list.
use Rattle.std.proofs.Common.{◌≡◌, ◌∙◌, ◌<◌, ◌+◌, ℕ, suc, List, [], ◌∷◌, ◌++◌, length, get_or, take, drop, sym, ap, add-one}
use Rattle.std.proofs.Math.Seq.{drop-cons, take-suc}
use Rattle.std.proofs.lemmas.List.{take-append-drop}

-- the list around one of its elements
pub around : {X : Type 0} (xs : List X) (k : ℕ) (x : X) → k < length xs → x ≡ get_or xs k x → xs ≡ take k xs ++ x ∷ drop (suc k) xs
around {X} xs k x within is =
    sym (take-append-drop k xs)
    ∙ ap (λ (ys : List X). take k xs ++ ys) (drop-cons xs k x within ∙ ap (λ (y : X). y ∷ drop (suc k) xs) (sym is))

-- one element more
pub take_more : {X : Type 0} (xs : List X) (k : ℕ) (x : X) → k < length xs → x ≡ get_or xs k x → take (k + 1) xs ≡ take k xs ++ x ∷ []
take_more {X} xs k x within is =
    ap (λ (n : ℕ). take n xs) (add-one k) ∙ take-suc xs k x within ∙ ap (λ (y : X). take k xs ++ y ∷ []) (sym is)

-- Going over rows, one at a time.
use Rattle.std.proofs.Common.{◌≡◌, ◌<◌, ◌≤◌, ◌+◌, ℕ, List, fold, get_or, length, take, take_all, sym, ap, ◌∙◌}
use Rattle.std.proofs.lemmas.List.Sums.{fold_more}

pub fold_next : {A X : Type 0} (step : A → X → A) (start old new : A) (xs : List X) (i : ℕ) (d : X) → i < length xs → new ≡ step old (get_or xs i d)
    → old ≡ fold step start (take i xs) → new ≡ fold step start (take (i + 1) xs)
fold_next {A} step start old new xs i d within is so_far =
    is ∙ ap (λ (a : A). step a (get_or xs i d)) so_far ∙ sym (fold_more step start xs i d within)

pub fold_end : {A X : Type 0} (step : A → X → A) (start whole : A) (xs : List X) (i : ℕ) → length xs ≤ i → whole ≡ fold step start (take i xs)
    → whole ≡ fold step start xs
fold_end step start whole xs i past so_far = so_far ∙ ap (fold step start) (take_all i xs past)

-- Pieces that are appended one after the other.
use Rattle.std.proofs.Common.{◌≡◌, ℕ, List, [], ◌++◌, sym, ap, ◌∙◌, append_assoc}
use Rattle.std.proofs.lemmas.List.{append-nil}

pub onto : (o p rest x z : List ℕ) → x ≡ o ++ p → z ≡ x ++ rest → z ≡ o ++ (p ++ rest)
onto o p rest x z e f = f ∙ ap (λ (t : List ℕ). t ++ rest) e ∙ append_assoc o p rest

pub last : (x p z : List ℕ) → z ≡ x ++ p → z ≡ x ++ (p ++ [])
last x p z e = e ∙ ap (λ (t : List ℕ). x ++ t) (sym (append-nil p))

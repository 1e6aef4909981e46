-- No two accounts have one identifier, whatever legal moves were made.
use Rattle.std.proofs.Common.{◌≡◌, ◌≢◌, ℕ, zero, suc, List, [], ◌∷◌, map, Some, refl, sym, ap, ◌∙◌, subst, inl, inr, ⊎_elim}
use Rattle.std.specs.Prelude.{slice_get}
use Rattle.sn_laws.proofs.Facts.{identifiers_differ}
use Rattle.sn_laws.specs.Each.{Each, One}
use Rattle.sn_laws.specs.Lookups.{Bytes}
use Rattle.sn_laws.specs.Reached.{AllDiffer}
use Rattle.sn_laws.specs.Runs.{Legal, end}
use Rattle.sn_laws.specs.declared.ideal.Account.{Account}
use Rattle.sn_laws.specs.declared.moves.Move.{Move}
use Rattle.sn_shows.specs.Laws.{AreApart}
use Rattle.sn_shows.specs.Servers.{account_at}

-- an account that has a number is one of the accounts

one_got : (accounts : List Account) (n : ℕ) (a : Account) → slice_get accounts n ≡ Some a → One (λ (x : Account). x ≡ a) accounts
one_got [] n a h = absurd (cc)
one_got (x ∷ xs) zero a h = inl (cc)
one_got (x ∷ xs) (suc n) a h = inr (one_got xs n a h)

pub one_at : (accounts : List Account) (number : ℕ) (a : Account) → account_at number accounts ≡ Some a → One (λ (x : Account). x ≡ a) accounts
one_at accounts zero a h = absurd (cc)
one_at accounts (suc n) a h = one_got accounts n a h

each_one : (P : Account → Type 0) (accounts : List Account) (a : Account) → Each P accounts → One (λ (x : Account). x ≡ a) accounts → P a
each_one P [] a each one = absurd one
each_one P (x ∷ xs) a each one = ⊎_elim (λ (e : x ≡ a). subst P e each.0) (λ rest. each_one P xs a each.1 rest) one

pub each_at : (P : Account → Type 0) (accounts : List Account) (number : ℕ) (a : Account) → Each P accounts → account_at number accounts ≡ Some a → P a
each_at P accounts number a each at = each_one P accounts a each (one_at accounts number a at)

-- accounts whose identifiers differ are apart

other_got : (accounts : List Account) (n : ℕ) (a : Account) (identifier : Bytes) → Each (λ (y : Bytes). y ≢ identifier) (map (λ (x : Account). x.identifier) accounts)
    → slice_get accounts n ≡ Some a → a.identifier ≢ identifier
other_got [] n a identifier each h = absurd (cc)
other_got (x ∷ xs) zero a identifier each h = let same : x ≡ a = cc in λ e. each.0 (ap (λ (y : Account). y.identifier) same ∙ e)
other_got (x ∷ xs) (suc n) a identifier each h = other_got xs n a identifier each.1 h

one_place : (accounts : List Account) (n m : ℕ) (a b : Account) → AllDiffer (map (λ (x : Account). x.identifier) accounts) → slice_get accounts n ≡ Some a
    → slice_get accounts m ≡ Some b → a.identifier ≡ b.identifier → n ≡ m
one_place [] n m a b differ h k same = absurd (cc)
one_place (x ∷ xs) zero zero a b differ h k same = refl
one_place (x ∷ xs) zero (suc m) a b differ h k same =
    let first : x ≡ a = cc in absurd (other_got xs m b x.identifier differ.0 k (sym same ∙ ap (λ (y : Account). y.identifier) (sym first)))
one_place (x ∷ xs) (suc n) zero a b differ h k same =
    let first : x ≡ b = cc in absurd (other_got xs n a x.identifier differ.0 h (same ∙ ap (λ (y : Account). y.identifier) (sym first)))
one_place (x ∷ xs) (suc n) (suc m) a b differ h k same = ap suc (one_place xs n m a b differ.1 h k same)

pub accounts_apart : (ms : List Move) → Legal ms → AreApart (end ms).accounts
accounts_apart ms legal number other a b at at_other same = by number other at at_other
  where
    by : (n m : ℕ) → account_at n (end ms).accounts ≡ Some a → account_at m (end ms).accounts ≡ Some b → n ≡ m
    by zero m at at_other = absurd (cc)
    by (suc n) zero at at_other = absurd (cc)
    by (suc n) (suc m) at at_other = ap suc (one_place (end ms).accounts n m a b (identifiers_differ ms legal) at at_other same)

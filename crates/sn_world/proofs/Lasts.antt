-- Last versions, and stamps, in lists.
use Rattle.std.proofs.Common.{◌≡◌, ◌≢◌, ◌<◌, ◌≤◌, ℕ, suc, List, [], ◌∷◌, ◌++◌, Option, Some, None, Bool, true, false, refl, ap, ◌∙◌, subst, ⊎_elim, arith}
use Rattle.std.specs.Prelude.{cond, if◌then◌else◌, find, map, max, nat_lt, reverse, slice_get}
use Rattle.std.specs.Option.{option_or}
use Rattle.std.proofs.lemmas.Bool.Decides.{Decides-ltb}
use Rattle.std.proofs.lemmas.List.Concat.{flat_map-cons}
use Rattle.std.proofs.lemmas.List.Folds.{find-append}
use mathlib.Core.List.{reverse-cons}
use Rattle.sn_laws.proofs.Facts.{text_same}
use Rattle.sn_laws.specs.Each.{Each, One}
use Rattle.sn_laws.specs.Lookups.{Bytes, greatest, is_of, last_of}
use Rattle.sn_laws.specs.declared.ideal.Account.{Account}
use Rattle.sn_laws.specs.declared.ideal.Version.{Version}
use Rattle.sn_shows.specs.Servers.{account_at, stamps_in}

-- the last version of a list with one more in front

pub last_cons : (uuid : Bytes) (v : Version) (vs : List Version) → last_of uuid (v ∷ vs) ≡ option_or (last_of uuid vs) (find (is_of uuid) (v ∷ []))
last_cons uuid v vs = ap (find (is_of uuid)) (reverse-cons v vs) ∙ find-append (is_of uuid) (reverse vs) (v ∷ [])

-- a list without a last version of the item has none of it
pub none_of : (uuid : Bytes) (vs : List Version) → ((v : Version) → last_of uuid vs ≡ Some v → ⊥) → Each (λ (v : Version). v.uuid ≢ uuid) vs
none_of uuid [] h = tt
none_of uuid (v ∷ vs) h = (λ e. head e (last_of uuid vs) refl, none_of uuid vs (λ w e. h w (last_cons uuid v vs ∙ ap (λ (o : Option Version). option_or o (find (is_of uuid) (v ∷ []))) e)))
  where
    head : v.uuid ≡ uuid → (found : Option Version) → last_of uuid vs ≡ found → ⊥
    head e None k = h v (last_cons uuid v vs ∙ ap (λ (o : Option Version). option_or o (find (is_of uuid) (v ∷ []))) k ∙ ap (λ (b : Bool). cond b (Some v) None) (text_same v.uuid uuid e))
    head e (Some w) k = h w (last_cons uuid v vs ∙ ap (λ (o : Option Version). option_or o (find (is_of uuid) (v ∷ []))) k)

one_none : (uuid : Bytes) (vs : List Version) (v : Version) → One (λ (w : Version). w ≡ v) vs → v.uuid ≡ uuid → Each (λ (w : Version). w.uuid ≢ uuid) vs → ⊥
one_none uuid [] v one is none = one
one_none uuid (w ∷ vs) v one is none =
    ⊎_elim (λ (e : w ≡ v). none.0 (ap (λ (x : Version). x.uuid) e ∙ is)) (λ rest. one_none uuid vs v rest is none.1) one

-- an item that has a version has a last one
pub has_last : (uuid : Bytes) (vs : List Version) (v : Version) → One (λ (w : Version). w ≡ v) vs → v.uuid ≡ uuid → (w : Version) × (last_of uuid vs ≡ Some w)
has_last uuid vs v one is = at (last_of uuid vs) refl
  where
    at : (found : Option Version) → last_of uuid vs ≡ found → (w : Version) × (last_of uuid vs ≡ Some w)
    at (Some w) e = (w, e)
    at None e = absurd (one_none uuid vs v one is (none_of uuid vs (λ w k. cc)))

-- what holds of each account by its number
each_got : (P : Account → Type 0) (xs : List Account) → ((n : ℕ) (a : Account) → slice_get xs n ≡ Some a → P a) → Each P xs
each_got P [] h = tt
each_got P (x ∷ xs) h = (h 0 x refl, each_got P xs (λ n a e. h (suc n) a e))

pub each_at_number : (P : Account → Type 0) (xs : List Account) → ((n : ℕ) (a : Account) → account_at n xs ≡ Some a → P a) → Each P xs
each_at_number P xs h = each_got P xs (λ n a e. h (suc n) a e)

-- no stamp is above the greatest

from_most : (ns : List ℕ) (most : ℕ) → most ≤ greatest most ns
from_most [] most = let same : most ≡ most = refl in omega arith
from_most (n ∷ ns) most = at (from_most ns n) (from_most ns most) (nat_lt most n) refl
  where
    at : n ≤ greatest n ns → most ≤ greatest most ns → (b : Bool) → nat_lt most n ≡ b → most ≤ greatest (if b then n else most) ns
    at up stay true e = let less : most < n = (Decides-ltb most n).0 e in omega arith
    at up stay false e = stay

each_within : (ns : List ℕ) (most : ℕ) → Each (λ n. n ≤ greatest most ns) ns
each_within [] most = tt
each_within (n ∷ ns) most = at (from_most ns n) (from_most ns most) (each_within ns n) (each_within ns most) (nat_lt most n) refl
  where
    at : n ≤ greatest n ns → most ≤ greatest most ns → Each (λ k. k ≤ greatest n ns) ns → Each (λ k. k ≤ greatest most ns) ns → (b : Bool)
        → nat_lt most n ≡ b → (n ≤ greatest (if b then n else most) ns) × Each (λ k. k ≤ greatest (if b then n else most) ns) ns
    at up stay rest rest_stay true e = (up, rest)
    at up stay rest rest_stay false e =
        let not_less : ¬ (most < n) = λ h. let t : nat_lt most n ≡ true = (Decides-ltb most n).1 h in cc in
        (omega arith, rest_stay)

each_split : (P : ℕ → Type 0) (xs ys : List ℕ) → Each P (xs ++ ys) → Each P xs × Each P ys
each_split P [] ys h = (tt, h)
each_split P (x ∷ xs) ys h = let rest = each_split P xs ys h.1 in ((h.0, rest.0), rest.1)

each_version : (P : ℕ → Type 0) (vs : List Version) → Each P (map (λ (v : Version). v.stamp) vs) → Each (λ (v : Version). P v.stamp) vs
each_version P [] h = tt
each_version P (v ∷ vs) h = (h.0, each_version P vs h.1)

each_out : (P : ℕ → Type 0) (accounts : List Account) → Each P (stamps_in accounts) → Each (λ (a : Account). Each (λ (v : Version). P v.stamp) a.versions) accounts
each_out P [] h = tt
each_out P (a ∷ rest) h =
    let both = each_split P (map (λ (v : Version). v.stamp) a.versions) (stamps_in rest)
    (subst (λ (ns : List ℕ). Each P ns) (flat_map-cons (λ (x : Account). map (λ (v : Version). v.stamp) x.versions) a rest) h) in
    (each_version P a.versions both.0, each_out P rest both.1)

each_less : (P Q : ℕ → Type 0) → ((n : ℕ) → P n → Q n) → (ns : List ℕ) → Each P ns → Each Q ns
each_less P Q f [] h = tt
each_less P Q f (n ∷ ns) h = (f n h.0, each_less P Q f ns h.1)

-- a stamp above the greatest is above all
pub above_all : (accounts : List Account) (stamp : ℕ) → greatest 0 (stamps_in accounts) < stamp
    → Each (λ (a : Account). Each (λ (v : Version). v.stamp < stamp) a.versions) accounts
above_all accounts stamp h =
    each_out (λ n. n < stamp) accounts
    (each_less (λ n. n ≤ greatest 0 (stamps_in accounts)) (λ n. n < stamp) (λ n k. omega arith) (stamps_in accounts) (each_within (stamps_in accounts) 0))

pub above_last : (now last : ℕ) → last < max now (suc last)
above_last now last = omega arith

-- and none of them is above the greatest
pub within_all : (accounts : List Account) → Each (λ (a : Account). Each (λ (v : Version). v.stamp ≤ greatest 0 (stamps_in accounts)) a.versions) accounts
within_all accounts = each_out (λ n. n ≤ greatest 0 (stamps_in accounts)) accounts (each_within (stamps_in accounts) 0)

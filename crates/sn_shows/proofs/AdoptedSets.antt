-- Strings open under one of an account's sets at most, and to one text; and the greatest of the sets that a device holds.
use Rattle.std.proofs.Common.{◌≡◌, ◌≢◌, ◌<◌, ℕ, zero, suc, List, [], ◌∷◌, map, Some, refl, sym, ap, ◌∙◌, subst, inl, None, arith}
use Rattle.std.proofs.lemmas.Bool.Decides.{nat_tests}
use Rattle.std.specs.Prelude.{slice_get}
use Rattle.sn_items.specs.Items.{CarriesParams, OpensItem}
use Rattle.sn_items.specs.declared.sealed.Sealed.{Sealed}
use Rattle.sn_laws.proofs.Facts.{one_there}
use Rattle.sn_laws.specs.Each.{Each}
use Rattle.sn_laws.specs.Lookups.{Bytes, greatest}
use Rattle.sn_laws.specs.Reached.{AllDiffer, NoncesApart}
use Rattle.sn_laws.specs.declared.ideal.Account.{Account}
use Rattle.sn_sets.proofs.Facts.{one_held}
use Rattle.sn_sets.specs.declared.sets.Sets.{Sets}
use Rattle.sn_string.proofs.Facts.{one_reading}
use Rattle.sn_string.specs.Grammar.{Reading}
use Rattle.sn_string.specs.declared.params.KeySet.{KeySet}
use Rattle.sn_string.specs.declared.params.Params.{Params}
use Rattle.sn_shows.specs.Sets.{OpensUnder, set_at}

-- ---- a set by its nonce

nonce_apart : (sets : List KeySet) (n : ℕ) (k : KeySet) (nonce : Bytes)
    → Each (λ (y : Bytes). y ≢ nonce) (map (λ (x : KeySet). x.params.pw_nonce) sets) → slice_get sets n ≡ Some k → k.params.pw_nonce ≢ nonce
nonce_apart [] n k nonce each h = absurd (cc)
nonce_apart (x ∷ xs) zero k nonce each h = let same : x ≡ k = cc in λ e. each.0 (ap (λ (y : KeySet). y.params.pw_nonce) same ∙ e)
nonce_apart (x ∷ xs) (suc n) k nonce each h = nonce_apart xs n k nonce each.1 h

one_nonce : (sets : List KeySet) (n m : ℕ) (k l : KeySet) → AllDiffer (map (λ (x : KeySet). x.params.pw_nonce) sets) → slice_get sets n ≡ Some k
    → slice_get sets m ≡ Some l → k.params.pw_nonce ≡ l.params.pw_nonce → n ≡ m
one_nonce [] n m k l differ h e same = absurd (cc)
one_nonce (x ∷ xs) zero zero k l differ h e same = refl
one_nonce (x ∷ xs) zero (suc m) k l differ h e same =
    let first : x ≡ k = cc in
    absurd (nonce_apart xs m l x.params.pw_nonce differ.0 e (sym same ∙ ap (λ (y : KeySet). y.params.pw_nonce) (sym first)))
one_nonce (x ∷ xs) (suc n) zero k l differ h e same =
    let first : x ≡ l = cc in
    absurd (nonce_apart xs n k x.params.pw_nonce differ.0 h (same ∙ ap (λ (y : KeySet). y.params.pw_nonce) (sym first)))
one_nonce (x ∷ xs) (suc n) (suc m) k l differ h e same = ap suc (one_nonce xs n m k l differ.1 h e same)

-- no two of an account's sets have one nonce
pub one_number : (sets : List KeySet) (n m : ℕ) (k l : KeySet) → AllDiffer (map (λ (x : KeySet). x.params.pw_nonce) sets) → set_at n sets ≡ Some k
    → set_at m sets ≡ Some l → k.params.pw_nonce ≡ l.params.pw_nonce → n ≡ m
one_number sets zero m k l differ h e same = absurd (cc)
one_number sets (suc n) zero k l differ h e same = absurd (cc)
one_number sets (suc n) (suc m) k l differ h e same = ap suc (one_nonce sets n m k l differ h e same)

-- ---- what strings open under

-- a text carries the parameters of one set
carried_params : (text : Bytes) (p q : Params) → CarriesParams text p → CarriesParams text q → p ≡ q
carried_params text p q h k =
    let same : h.reading ≡ k.reading = one_reading text h.reading k.reading h.reads k.reads in
    sym h.params_are ∙ ap (λ (r : Reading). r.params) same ∙ k.params_are

-- so strings open under one of its sets at most
pub one_set : (a : Account) (k m : ℕ) (uuid : Bytes) (sealed : Sealed) (text other : Bytes) → NoncesApart a
    → OpensUnder a.sets k uuid sealed text → OpensUnder a.sets m uuid sealed other → k ≡ m
one_set a k m uuid sealed text other apart h r =
    let same : h.set.params ≡ r.set.params =
    carried_params sealed.enc h.set.params r.set.params h.opens.carries.enc r.opens.carries.enc in
    one_number a.sets k m h.set r.set apart h.at r.at (ap (λ (p : Params). p.pw_nonce) same)

-- and to one text
pub one_opened : (sets : List KeySet) (k : ℕ) (uuid : Bytes) (sealed : Sealed) (text other : Bytes) → OpensUnder sets k uuid sealed text
    → OpensUnder sets k uuid sealed other → text ≡ other
one_opened sets k uuid sealed text other h r =
    let same : h.set ≡ r.set = one_there h.set r.set (set_at k sets) h.at r.at in
    let alone : Sets = record { present = r.set; older = None; asked = None } in
    one_held alone uuid sealed text other (inl (subst (λ (x : KeySet). OpensItem sealed uuid x text) same h.opens)) (inl r.opens)

-- ---- the greatest

pub greatest_of_one : (number : ℕ) → greatest 0 (number ∷ []) ≡ number
greatest_of_one number = grind (arith, nat_tests)

pub greatest_of_two : (old number : ℕ) → old < number → greatest 0 (old ∷ number ∷ []) ≡ number
greatest_of_two old number lt = grind (arith, nat_tests, lt)

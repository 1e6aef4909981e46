-- The stamp of a version that is accepted is the greatest of all.
use Rattle.std.proofs.Common.{◌≡◌, ◌⊎◌, ◌<◌, ◌≤◌, ℕ, List, [], ◌∷◌, ◌++◌, length, Option, Some, Bool, true, false, refl, sym, ap, subst, inl, inr, ⊎_elim, arith}
use Rattle.std.specs.Prelude.{IsTrue, if◌then◌else◌, map, nat_lt}
use Rattle.std.proofs.lemmas.Bool.Decides.{Decides-ltb}
use Rattle.std.proofs.lemmas.List.Concat.{flat_map-cons}
use Rattle.sn_laws.specs.Each.{Each, One}
use Rattle.sn_laws.specs.declared.ideal.Account.{Account}
use Rattle.sn_laws.specs.declared.ideal.Draft.{Draft}
use Rattle.sn_laws.specs.declared.ideal.Ideal.{Ideal}
use Rattle.sn_laws.specs.declared.ideal.Version.{Version}
use Rattle.sn_laws.specs.declared.moves.Move.TheVariants.{Accept}
use Rattle.sn_laws.specs.Lookups.{Bytes, draft_at, greatest, is_account}
use Rattle.sn_laws.specs.Moves.{accepted, after, allows, changed_where, version_of}
use Rattle.sn_laws.specs.Relation.{MayAccept}
use Rattle.sn_laws.proofs.Facts.{allowed_from, among, clash, is_below, text_same}
use Rattle.sn_shows.specs.Servers.{stamps_in}
use Rattle.sn_shows.specs.Laws.{AreApart}
use Rattle.sn_shows.proofs.ServersLists.{more}

at_top : (n most top : ℕ) → most ≤ top → n ≡ top → (most < n → ⊥) → most ≡ top
at_top n most top within is not_less = omega arith

-- the greatest of numbers is one of them that none exceeds
greatest_top : (ns : List ℕ) (most top : ℕ) → most ≤ top → Each (λ n. n ≤ top) ns → (most ≡ top) ⊎ One (λ n. n ≡ top) ns → greatest most ns ≡ top
greatest_top [] most top within each (inl e) = e
greatest_top [] most top within each (inr none) = absurd none
greatest_top (n ∷ ns) most top within each one = at (λ m fits either. greatest_top ns m top fits each.1 either) (nat_lt most n) refl one
  where
    at : ((m : ℕ) → m ≤ top → (m ≡ top) ⊎ One (λ k. k ≡ top) ns → greatest m ns ≡ top)
        → (b : Bool) → nat_lt most n ≡ b → (most ≡ top) ⊎ ((n ≡ top) ⊎ One (λ k. k ≡ top) ns) → greatest (if b then n else most) ns ≡ top
    at again true e (inl is) =
        let less : most < n = (Decides-ltb most n).0 e in
        let bound : n ≤ top = each.0 in
        absurd (omega arith)
    at again true e (inr either) = again n each.0 either
    at again false e (inl is) = again most within (inl is)
    at again false e (inr (inl is)) = again most within (inl (at_top n most top within is (λ less. clash (nat_lt most n) (is_below most n less) e)))
    at again false e (inr (inr rest)) = again most within (inr rest)

-- the stamps of all versions

each_both : (P : ℕ → Type 0) (xs ys : List ℕ) → Each P xs → Each P ys → Each P (xs ++ ys)
each_both P [] ys h k = k
each_both P (x ∷ xs) ys h k = (h.0, each_both P xs ys h.1 k)

one_left : (P : ℕ → Type 0) (xs ys : List ℕ) → One P xs → One P (xs ++ ys)
one_left P [] ys h = absurd h
one_left P (x ∷ xs) ys h = ⊎_elim (λ e. inl e) (λ rest. inr (one_left P xs ys rest)) h

one_right : (P : ℕ → Type 0) (xs ys : List ℕ) → One P ys → One P (xs ++ ys)
one_right P [] ys h = h
one_right P (x ∷ xs) ys h = inr (one_right P xs ys h)

each_stamp : (P : ℕ → Type 0) (versions : List Version) → Each (λ (v : Version). P v.stamp) versions → Each P (map (λ (v : Version). v.stamp) versions)
each_stamp P [] h = tt
each_stamp P (v ∷ vs) h = (h.0, each_stamp P vs h.1)

each_in : (P : ℕ → Type 0) (accounts : List Account) → Each (λ (a : Account). Each (λ (v : Version). P v.stamp) a.versions) accounts
    → Each P (stamps_in accounts)
each_in P [] h = tt
each_in P (a ∷ rest) h =
    subst (λ (ns : List ℕ). Each P ns) (sym (flat_map-cons (λ (x : Account). map (λ (v : Version). v.stamp) x.versions) a rest))
    (each_both P (map (λ (v : Version). v.stamp) a.versions) (stamps_in rest) (each_stamp P a.versions h.0) (each_in P rest h.1))

-- one version more

weaker : (stamp : ℕ) (versions : List Version) → Each (λ (v : Version). v.stamp < stamp) versions → Each (λ (v : Version). v.stamp ≤ stamp) versions
weaker stamp [] h = tt
weaker stamp (v ∷ vs) h = (let less : v.stamp < stamp = h.0 in omega arith, weaker stamp vs h.1)

each_more : (w : Version) (versions : List Version) → Each (λ (v : Version). v.stamp < w.stamp) versions
    → Each (λ (v : Version). v.stamp ≤ w.stamp) (versions ++ w ∷ [])
each_more w [] h = (let same : w.stamp ≡ w.stamp = refl in omega arith, tt)
each_more w (v ∷ vs) h = (let less : v.stamp < w.stamp = h.0 in omega arith, each_more w vs h.1)

each_one : (w : Version) (q : Bool) (x : Account) → Each (λ (v : Version). v.stamp < w.stamp) x.versions
    → Each (λ (v : Version). v.stamp ≤ w.stamp) (if q then more w x else x).versions
each_one w true x h = each_more w x.versions h
each_one w false x h = weaker w.stamp x.versions h

each_changed : (w : Version) (name : Bytes) (accounts : List Account)
    → Each (λ (a : Account). Each (λ (v : Version). v.stamp < w.stamp) a.versions) accounts
    → Each (λ (a : Account). Each (λ (v : Version). v.stamp ≤ w.stamp) a.versions) (changed_where (is_account name) (more w) accounts)
each_changed w name [] h = tt
each_changed w name (x ∷ xs) h = (each_one w (is_account name x) x h.0, each_changed w name xs h.1)

stamp_more : (w : Version) (versions : List Version) → One (λ n. n ≡ w.stamp) (map (λ (v : Version). v.stamp) (versions ++ w ∷ []))
stamp_more w [] = inl refl
stamp_more w (v ∷ vs) = inr (stamp_more w vs)

one_more : (w : Version) (q : Bool) (x : Account) → q ≡ true → One (λ n. n ≡ w.stamp) (map (λ (v : Version). v.stamp) (if q then more w x else x).versions)
one_more w true x e = stamp_more w x.versions
one_more w false x e = absurd (cc)

one_changed : (w : Version) (a : Account) (accounts : List Account) → One (λ (x : Account). x ≡ a) accounts
    → One (λ n. n ≡ w.stamp) (stamps_in (changed_where (is_account a.identifier) (more w) accounts))
one_changed w a [] one = absurd one
one_changed w a (x ∷ xs) one =
    subst (λ (ns : List ℕ). One (λ n. n ≡ w.stamp) ns)
    (sym (flat_map-cons (λ (y : Account). map (λ (v : Version). v.stamp) y.versions) (if is_account a.identifier x then more w x else x) (changed_where (is_account a.identifier) (more w) xs)))
    (⊎_elim
    (λ (e : x ≡ a).
    one_left (λ n. n ≡ w.stamp) (map (λ (v : Version). v.stamp) (if is_account a.identifier x then more w x else x).versions) (stamps_in (changed_where (is_account a.identifier) (more w) xs))
    (one_more w (is_account a.identifier x) x (text_same x.identifier a.identifier (ap (λ (y : Account). y.identifier) e))))
    (λ (later : One (λ (y : Account). y ≡ a) xs).
    one_right (λ n. n ≡ w.stamp) (map (λ (v : Version). v.stamp) (if is_account a.identifier x then more w x else x).versions) (stamps_in (changed_where (is_account a.identifier) (more w) xs)) (one_changed w a xs later)) one)

pub last_changed : (w : Version) (a : Account) (accounts : List Account) → Each (λ (b : Account). Each (λ (v : Version). v.stamp < w.stamp) b.versions) accounts
    → One (λ (x : Account). x ≡ a) accounts → greatest 0 (stamps_in (changed_where (is_account a.identifier) (more w) accounts)) ≡ w.stamp
last_changed w a accounts below one =
    greatest_top (stamps_in (changed_where (is_account a.identifier) (more w) accounts)) 0 w.stamp (omega arith)
    (each_in (λ n. n ≤ w.stamp) (changed_where (is_account a.identifier) (more w) accounts) (each_changed w a.identifier accounts below))
    (inr (one_changed w a accounts one))

pub accepted_last : (s : Ideal) (device uuid : Bytes) (stamp : ℕ) (under : Option ℕ) → AreApart s.accounts
    → IsTrue (allows s (Accept device uuid stamp under)) → greatest 0 (stamps_in (after s (Accept device uuid stamp under)).accounts) ≡ stamp
accepted_last s device uuid stamp under apart allowed =
    let may : MayAccept s device uuid stamp under = allowed_from s (Accept device uuid stamp under) allowed in
    let last = last_changed (version_of stamp (length may.account.sets) may.draft) may.account s.accounts may.new.above
    (among s device may.account may.is.has) in
    subst (λ (a : Option Account). greatest 0 (stamps_in (accepted s.accounts a (draft_at s device uuid) stamp)) ≡ stamp) (sym may.is.has)
    (subst (λ (d : Option Draft). greatest 0 (stamps_in (accepted s.accounts (Some may.account) d stamp)) ≡ stamp) (sym may.is.at) last)

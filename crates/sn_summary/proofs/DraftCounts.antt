-- How many drafts there are of a device and an item.
use Rattle.std.proofs.Common.{◌≡◌, ◌⊎◌, ◌≤◌, ℕ, suc, ◌+◌, List, [], ◌∷◌, ◌++◌, length, Option, Some, None, Bool, true, false, cond, refl, inl, inr, ⊎_elim, arith}
use Rattle.std.specs.Prelude.{find, if◌then◌else◌, is_some, not}
use Rattle.sn_laws.specs.Lookups.{Bytes, is_draft}
use Rattle.sn_laws.specs.Moves.{changed_where, without}
use Rattle.sn_laws.specs.declared.ideal.Draft.{Draft}
use Rattle.sn_laws.proofs.Facts.{clash}
use Rattle.sn_summary.specs.Walks.{drafts_of}

-- ---- one element more

more : (b : Bool) (n m k : ℕ) → n ≡ m + k → cond b (suc n) n ≡ cond b (suc m) m + k
more true n m k h = omega arith
more false n m k h = h

least : (b : Bool) → cond b 1 0 ≡ 0 + cond b 1 0
least true = omega arith
least false = omega arith

not_less : (b c : Bool) (n m : ℕ) → (b ≡ true → c ≡ true) → n ≤ m → cond b (suc n) n ≤ cond c (suc m) m
not_less true true n m h k = omega arith
not_less true false n m h k = absurd (clash false (h refl) refl)
not_less false true n m h k = omega arith
not_less false false n m h k = k

within : (c : Bool) (n m : ℕ) → n ≤ m → n ≤ cond c (suc m) m
within true n m k = omega arith
within false n m k = k

not_more : (b c d : Bool) (n m k : ℕ) → (b ≡ true → (c ≡ true) ⊎ (d ≡ true)) → n ≤ m + k
    → cond b (suc n) n ≤ cond c (suc m) m + cond d (suc k) k
not_more true true true n m k h e = omega arith
not_more true true false n m k h e = omega arith
not_more true false true n m k h e = omega arith
not_more true false false n m k h e = ⊎_elim (λ f. absurd (clash false f refl)) (λ f. absurd (clash false f refl)) (h refl)
not_more false true true n m k h e = omega arith
not_more false true false n m k h e = omega arith
not_more false false true n m k h e = omega arith
not_more false false false n m k h e = e

-- ---- what is found

pub of_more : (device uuid : Bytes) (ds : List Draft) (d : Draft)
    → drafts_of device uuid (ds ++ d ∷ []) ≡ drafts_of device uuid ds + cond (is_draft device uuid d) 1 0
of_more device uuid [] d = least (is_draft device uuid d)
of_more device uuid (x ∷ xs) d =
    more (is_draft device uuid x) (drafts_of device uuid (xs ++ d ∷ [])) (drafts_of device uuid xs) (cond (is_draft device uuid d) 1 0)
    (of_more device uuid xs d)

pub of_none : (device uuid : Bytes) (ds : List Draft) → find (is_draft device uuid) ds ≡ None → drafts_of device uuid ds ≡ 0
of_none device uuid [] h = refl
of_none device uuid (x ∷ xs) h = at (λ e. of_none device uuid xs e) (is_draft device uuid x) h
  where
    at : (find (is_draft device uuid) xs ≡ None → drafts_of device uuid xs ≡ 0) → (b : Bool)
        → cond b (Some x) (find (is_draft device uuid) xs) ≡ None → cond b (suc (drafts_of device uuid xs)) (drafts_of device uuid xs) ≡ 0
    at rest true e = absurd (cc)
    at rest false e = rest e

of_some : (device uuid : Bytes) (ds : List Draft) (d : Draft) → find (is_draft device uuid) ds ≡ Some d → 1 ≤ drafts_of device uuid ds
of_some device uuid [] d h = absurd (cc)
of_some device uuid (x ∷ xs) d h = at (λ e. of_some device uuid xs d e) (is_draft device uuid x) h
  where
    at : (find (is_draft device uuid) xs ≡ Some d → 1 ≤ drafts_of device uuid xs) → (b : Bool)
        → cond b (Some x) (find (is_draft device uuid) xs) ≡ Some d → 1 ≤ cond b (suc (drafts_of device uuid xs)) (drafts_of device uuid xs)
    at rest true e = omega arith
    at rest false e = rest e

-- where there is one at most, it is found
pub of_found : (device uuid : Bytes) (ds : List Draft) → drafts_of device uuid ds ≤ 1
    → drafts_of device uuid ds ≡ cond (is_some (find (is_draft device uuid) ds)) 1 0
of_found device uuid ds few = at (find (is_draft device uuid) ds) refl
  where
    at : (o : Option Draft) → find (is_draft device uuid) ds ≡ o → drafts_of device uuid ds ≡ cond (is_some o) 1 0
    at None e = of_none device uuid ds e
    at (Some d) e = let some : 1 ≤ drafts_of device uuid ds = of_some device uuid ds d e in omega arith

-- ---- drafts that are changed or taken out

turns : (device uuid : Bytes) (q : Draft → Bool) (f : Draft → Draft) (x : Draft)
    → (q x ≡ true → is_draft device uuid (f x) ≡ true → is_draft device uuid x ≡ true)
    → is_draft device uuid (if q x then f x else x) ≡ true → is_draft device uuid x ≡ true
turns device uuid q f x h e = at (q x) refl e
  where
    at : (t : Bool) → q x ≡ t → is_draft device uuid (if t then f x else x) ≡ true → is_draft device uuid x ≡ true
    at true k l = h k l
    at false k l = l

-- a change that makes no draft one of these
pub of_changed : (device uuid : Bytes) (q : Draft → Bool) (f : Draft → Draft)
    → ((d : Draft) → q d ≡ true → is_draft device uuid (f d) ≡ true → is_draft device uuid d ≡ true) → (ds : List Draft)
    → drafts_of device uuid (changed_where q f ds) ≤ drafts_of device uuid ds
of_changed device uuid q f h [] = omega arith
of_changed device uuid q f h (x ∷ xs) =
    not_less (is_draft device uuid (if q x then f x else x)) (is_draft device uuid x) (drafts_of device uuid (changed_where q f xs))
    (drafts_of device uuid xs) (turns device uuid q f x (h x)) (of_changed device uuid q f h xs)

came_of : (device uuid : Bytes) (q : Draft → Bool) (f : Draft → Draft) (x : Draft)
    → is_draft device uuid (if q x then f x else x) ≡ true → (is_draft device uuid x ≡ true) ⊎ (q x ≡ true)
came_of device uuid q f x e = at (q x) refl e
  where
    at : (t : Bool) → q x ≡ t → is_draft device uuid (if t then f x else x) ≡ true → (is_draft device uuid x ≡ true) ⊎ (q x ≡ true)
    at true k l = inr k
    at false k l = inl l

-- any change of those of one key
pub of_moved : (device uuid name item : Bytes) (f : Draft → Draft) (ds : List Draft)
    → drafts_of device uuid (changed_where (is_draft name item) f ds) ≤ drafts_of device uuid ds + drafts_of name item ds
of_moved device uuid name item f [] = omega arith
of_moved device uuid name item f (x ∷ xs) =
    not_more (is_draft device uuid (if is_draft name item x then f x else x)) (is_draft device uuid x) (is_draft name item x)
    (drafts_of device uuid (changed_where (is_draft name item) f xs)) (drafts_of device uuid xs) (drafts_of name item xs)
    (came_of device uuid (is_draft name item) f x) (of_moved device uuid name item f xs)

pub of_without : (device uuid : Bytes) (q : Draft → Bool) (ds : List Draft) → drafts_of device uuid (without q ds) ≤ drafts_of device uuid ds
of_without device uuid q [] = omega arith
of_without device uuid q (x ∷ xs) = at (of_without device uuid q xs) (q x)
  where
    at : drafts_of device uuid (without q xs) ≤ drafts_of device uuid xs → (t : Bool)
        → drafts_of device uuid (cond (not t) (x ∷ without q xs) (without q xs))
        ≤ cond (is_draft device uuid x) (suc (drafts_of device uuid xs)) (drafts_of device uuid xs)
    at rest true = within (is_draft device uuid x) (drafts_of device uuid (without q xs)) (drafts_of device uuid xs) rest
    at rest false =
        not_less (is_draft device uuid x) (is_draft device uuid x) (drafts_of device uuid (without q xs)) (drafts_of device uuid xs) (λ e. e) rest

pub length-without : (device uuid : Bytes) (ds : List Draft)
    → length (without (is_draft device uuid) ds) + drafts_of device uuid ds ≡ length ds
length-without device uuid [] = refl
length-without device uuid (x ∷ xs) = at (length-without device uuid xs) (is_draft device uuid x)
  where
    at : length (without (is_draft device uuid) xs) + drafts_of device uuid xs ≡ length xs → (t : Bool)
        → length (cond (not t) (x ∷ without (is_draft device uuid) xs) (without (is_draft device uuid) xs))
        + cond t (suc (drafts_of device uuid xs)) (drafts_of device uuid xs)
        ≡ suc (length xs)
    at rest true = omega arith
    at rest false = omega arith

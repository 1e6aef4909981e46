-- Versions carry sets of their account, and last versions one of its last two.
use Rattle.std.proofs.Common.{◌≡◌, ◌⊎◌, ◌≤◌, ℕ, ◌+◌, List, [], ◌∷◌, ◌++◌, length, Some, Bool, true, false, refl, sym, ap, ◌∙◌, subst, inl, inr, arith}
use Rattle.std.specs.Str.{bytes_eq}
use Rattle.std.proofs.lemmas.List.{length-append}
use Rattle.sn_laws.specs.declared.ideal.Body.{Body}
use Rattle.sn_laws.specs.declared.ideal.Body.TheVariants.{Under, Gone}
use Rattle.sn_laws.specs.declared.ideal.Version.{Version}
use Rattle.sn_laws.specs.declared.ideal.Account.{Account}
use Rattle.sn_laws.specs.declared.ideal.Ideal.{Ideal}
use Rattle.sn_laws.specs.declared.moves.Move.{Move}
use Rattle.sn_string.specs.declared.params.KeySet.{KeySet}
use Rattle.sn_laws.specs.Each.{Each}
use Rattle.sn_laws.specs.Lookups.{Bytes, empty, is_account, last_of}
use Rattle.sn_laws.specs.Moves.{after}
use Rattle.sn_laws.specs.Relation.{IsLive, IsUnder}
use Rattle.sn_laws.specs.Runs.{Legal, end}
use Rattle.sn_laws.proofs.AccountLemmas.{Grows, begins, changes, gains, grows, more, more_sets, stays}
use Rattle.sn_laws.proofs.ChangedLemmas.{each_changed, each_more, each_weaker}
use Rattle.sn_laws.proofs.EachLemmas.{clash, same_text, text_same}
use Rattle.sn_laws.proofs.IdentifierLemmas.{Differ, changes_there, differ_kept, gains_there}
use Rattle.sn_laws.proofs.LastLemmas.{last_other, last_own}
use Rattle.sn_laws.proofs.RelatedLemmas.{one_there}
use Rattle.sn_laws.proofs.RunLemmas.{reached}

pub length_more : (xs : List KeySet) (x : KeySet) → length (xs ++ x ∷ []) ≡ length xs + 1
length_more xs x = length-append xs (x ∷ [])

pub under_live : (k : ℕ) (b : Body) → IsUnder k b → IsLive b
under_live k (Under text set) h = tt
under_live k Gone h = absurd h

pub under_one : (n k : ℕ) (b : Body) → IsUnder n b → IsUnder k b → n ≡ k
under_one n k (Under text set) h e = sym h ∙ e
under_one n k Gone h e = absurd h

-- ---- each version carries a set of its account

abbrev Own : ℕ → Version → Type 0
Own n v = (k : ℕ) → IsUnder k v.body → (1 ≤ k) × (k ≤ n)

-- an account has a set at least, and its versions carry its sets
record OwnSets (a : Account) : Type 0 where
  some : 1 ≤ length a.sets
  own : Each (Own (length a.sets)) a.versions

record Carried (xs : List Account) : Type 0 where
  identifiers : Differ xs
  sets : Each OwnSets xs

own_gained : (x : Account) (w : Version) → ((k : ℕ) → IsUnder k w.body → length x.sets ≡ k) → OwnSets x → OwnSets (more w x)
own_gained x w under h =
    record {
      some = h.some;
      own = each_more (Own (length x.sets)) x.versions w h.own
          (λ k e. let is : length x.sets ≡ k = under k e in (subst (λ n. 1 ≤ n) is h.some, omega (arith, is)));
    }

own_changed : (x : Account) (set : KeySet) → OwnSets x → OwnSets (more_sets set x)
own_changed x set h =
    let longer : length (x.sets ++ set ∷ []) ≡ length x.sets + 1 = length_more x.sets set in
    record {
      some = let e = h.some in omega (arith, longer, e);
      own = each_weaker (Own (length x.sets)) (Own (length (x.sets ++ set ∷ [])))
          (λ v own k e. let both = own k e in let below : k ≤ length x.sets = both.1 in (both.0, omega (arith, longer, below))) x.versions h.own;
    }

own_kept : (s : Ideal) (next : List Account) → Grows s next → Carried s.accounts → Each OwnSets next
own_kept s next (stays e) h = subst (Each OwnSets) (sym e) h.sets
own_kept s next (begins b) h =
    subst (Each OwnSets) (sym b.next_is)
    (each_more OwnSets s.accounts (record { identifier = b.identifier; sets = b.set ∷ []; versions = [] }) h.sets
    (record { some = omega arith; own = tt }))
own_kept s next (gains uuid a w g) h =
    subst (Each OwnSets) (sym g.next_is)
    (each_changed OwnSets (is_account a.identifier) (more w) s.accounts h.sets
    (λ x there is k. own_gained x w
    (subst (λ (y : Account). (n : ℕ) → IsUnder n w.body → length y.sets ≡ n) (gains_there s uuid a w next g h.identifiers x there is) g.under) k))
own_kept s next (changes identifier number set c) h =
    subst (Each OwnSets) (sym c.next_is)
    (each_changed OwnSets (is_account identifier) (more_sets set) s.accounts h.sets (λ x there is k. own_changed x set k))

carried_kept : (s : Ideal) (next : List Account) → Grows s next → Carried s.accounts → Carried next
carried_kept s next g h = record { identifiers = differ_kept s next g h.identifiers; sets = own_kept s next g h }

pub carries_sets : (ms : List Move) → Legal ms
    → Each (λ (a : Account). Each (λ (v : Version). (k : ℕ) → IsUnder k v.body → (1 ≤ k) × (k ≤ length a.sets)) a.versions) (end ms).accounts
carries_sets ms legal =
    each_weaker OwnSets (λ (a : Account). Each (Own (length a.sets)) a.versions) (λ a h. h.own) (end ms).accounts
    (reached (λ (s : Ideal). Carried s.accounts) (λ s m h. carried_kept s (after s m).accounts (grows s m h)) empty ms legal
    (record { identifiers = tt; sets = tt })).sets

-- ---- each last version carries one of the last two

abbrev LastTwo : Account → Type 0
LastTwo a = (uuid : Bytes) (v : Version) (k : ℕ) → last_of uuid a.versions ≡ Some v → IsUnder k v.body
    → (k ≡ length a.sets) ⊎ (k + 1 ≡ length a.sets)

record Two (xs : List Account) : Type 0 where
  identifiers : Differ xs
  sets : Each LastTwo xs

two_gained : (x : Account) (w : Version) → ((k : ℕ) → IsUnder k w.body → length x.sets ≡ k) → LastTwo x → LastTwo (more w x)
two_gained x w under h uuid v k last e = at (bytes_eq w.uuid uuid) refl
  where
    at : (b : Bool) → bytes_eq w.uuid uuid ≡ b → (k ≡ length x.sets) ⊎ (k + 1 ≡ length x.sets)
    at true is =
        let same : w ≡ v = one_there w v (last_of uuid (x.versions ++ w ∷ [])) (last_own uuid x.versions w (same_text w.uuid uuid is)) last in
        inl (sym (under k (subst (λ (y : Version). IsUnder k y.body) (sym same) e)))
    at false is =
        h uuid v k (sym (last_other uuid x.versions w (λ same. clash (bytes_eq w.uuid uuid) (text_same w.uuid uuid same) is)) ∙ last) e

two_changed : (x : Account) (set : KeySet)
    → ((uuid : Bytes) (v : Version) → last_of uuid x.versions ≡ Some v → IsLive v.body → IsUnder (length x.sets) v.body) → LastTwo (more_sets set x)
two_changed x set same uuid v k last e =
    let is : length x.sets ≡ k = under_one (length x.sets) k v.body (same uuid v last (under_live k v.body e)) e in
    inr (ap (λ n. n + 1) (sym is) ∙ sym (length_more x.sets set))

two_kept : (s : Ideal) (next : List Account) → Grows s next → Two s.accounts → Each LastTwo next
two_kept s next (stays e) h = subst (Each LastTwo) (sym e) h.sets
two_kept s next (begins b) h =
    subst (Each LastTwo) (sym b.next_is)
    (each_more LastTwo s.accounts (record { identifier = b.identifier; sets = b.set ∷ []; versions = [] }) h.sets
    (λ uuid v k last e. absurd (cc)))
two_kept s next (gains uuid a w g) h =
    subst (Each LastTwo) (sym g.next_is)
    (each_changed LastTwo (is_account a.identifier) (more w) s.accounts h.sets
    (λ x there is k. two_gained x w
    (subst (λ (y : Account). (n : ℕ) → IsUnder n w.body → length y.sets ≡ n) (gains_there s uuid a w next g h.identifiers x there is) g.under) k))
two_kept s next (changes identifier number set c) h =
    subst (Each LastTwo) (sym c.next_is)
    (each_changed LastTwo (is_account identifier) (more_sets set) s.accounts h.sets
    (λ x there is k. two_changed x set
    (subst (λ (y : Account). (u : Bytes) (v : Version) → last_of u y.versions ≡ Some v → IsLive v.body → IsUnder (length y.sets) v.body)
    (changes_there s identifier number set c.may h.identifiers x there is) c.may.same)))

both_kept : (s : Ideal) (next : List Account) → Grows s next → Two s.accounts → Two next
both_kept s next g h = record { identifiers = differ_kept s next g h.identifiers; sets = two_kept s next g h }

pub carries_two : (ms : List Move) → Legal ms
    → Each (λ (a : Account). (uuid : Bytes) (v : Version) (k : ℕ) → last_of uuid a.versions ≡ Some v → IsUnder k v.body
    → (k ≡ length a.sets) ⊎ (k + 1 ≡ length a.sets)) (end ms).accounts
carries_two ms legal =
    (reached (λ (s : Ideal). Two s.accounts) (λ s m h. both_kept s (after s m).accounts (grows s m h)) empty ms legal
    (record { identifiers = tt; sets = tt })).sets

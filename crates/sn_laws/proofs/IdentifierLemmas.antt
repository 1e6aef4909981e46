-- Identifiers differ, and so do the nonces of an account's sets.
use Rattle.std.proofs.Common.{◌≡◌, ◌≢◌, List, [], ◌∷◌, Some, Bool, true, false, refl, sym, ap, ◌∙◌, subst, inl, ⊎_elim, ℕ}
use Rattle.std.specs.Prelude.{cond, find, map}
use Rattle.sn_laws.specs.declared.ideal.Version.{Version}
use Rattle.sn_laws.specs.declared.ideal.Account.{Account}
use Rattle.sn_laws.specs.declared.ideal.Ideal.{Ideal}
use Rattle.sn_laws.specs.declared.moves.Move.{Move}
use Rattle.sn_string.specs.declared.params.KeySet.{KeySet}
use Rattle.sn_laws.specs.Each.{Each, One}
use Rattle.sn_laws.specs.Lookups.{Bytes, account_named, empty, is_account}
use Rattle.sn_laws.specs.Moves.{after}
use Rattle.sn_laws.specs.Reached.{AllDiffer}
use Rattle.sn_laws.specs.Relation.{MayChange}
use Rattle.sn_laws.specs.Runs.{Legal, end}
use Rattle.sn_laws.proofs.AccountLemmas.{Gains, Grows, begins, changes, gains, grows, more, more_sets, stays}
use Rattle.sn_laws.proofs.ChangedLemmas.{differ_more, differ_same, each_changed, each_more, map_changed, map_more, mapped_each}
use Rattle.sn_laws.proofs.EachLemmas.{clash, found_passes, same_text, text_same}
use Rattle.sn_laws.proofs.RunLemmas.{reached}

-- ---- identifiers

abbrev pub Differ : List Account → Type 0
Differ xs = AllDiffer (map (λ (a : Account). a.identifier) xs)

pub differ_kept : (s : Ideal) (next : List Account) → Grows s next → Differ s.accounts → Differ next
differ_kept s next (stays e) h = subst Differ (sym e) h
differ_kept s next (begins b) h =
    let new : Account = record { identifier = b.identifier; sets = b.set ∷ []; versions = [] } in
    subst Differ (sym b.next_is)
    (subst AllDiffer (sym (map_more (λ (a : Account). a.identifier) s.accounts new))
    (differ_more (map (λ (a : Account). a.identifier) s.accounts) b.identifier h
    (mapped_each (λ (a : Account). a.identifier) (λ n. n ≢ b.identifier) s.accounts b.fresh)))
differ_kept s next (gains uuid a w g) h =
    subst Differ (sym g.next_is)
    (subst AllDiffer (sym (map_changed (λ (a : Account). a.identifier) (is_account a.identifier) (more w) (λ x. refl) s.accounts)) h)
differ_kept s next (changes identifier number set c) h =
    subst Differ (sym c.next_is)
    (subst AllDiffer (sym (map_changed (λ (a : Account). a.identifier) (is_account identifier) (more_sets set) (λ x. refl) s.accounts)) h)

pub identifiers_differ : (ms : List Move) → Legal ms → Differ (end ms).accounts
identifiers_differ ms legal =
    reached (λ (s : Ideal). Differ s.accounts) (λ s m h. differ_kept s (after s m).accounts (grows s m h)) empty ms legal tt

-- of two accounts that are there and have one identifier, each is the other
pub one_account : (s : Ideal) (a b : Account) → Differ s.accounts → One (λ (x : Account). x ≡ a) s.accounts
    → One (λ (x : Account). x ≡ b) s.accounts → a.identifier ≡ b.identifier → a ≡ b
one_account s a b h one other same = differ_same (λ (x : Account). x.identifier) s.accounts a b h one other same

-- an account that is there is found by its identifier

found_there : (xs : List Account) (a : Account) → Differ xs → One (λ (x : Account). x ≡ a) xs → find (is_account a.identifier) xs ≡ Some a
found_there [] a h one = absurd one
found_there (x ∷ xs) a h one = at (λ rest. found_there xs a h.1 rest) (is_account a.identifier x) refl one
  where
    at : (One (λ (y : Account). y ≡ a) xs → find (is_account a.identifier) xs ≡ Some a) → (b : Bool) → is_account a.identifier x ≡ b
        → One (λ (y : Account). y ≡ a) (x ∷ xs) → cond b (Some x) (find (is_account a.identifier) xs) ≡ Some a
    at rest true e there =
        ap Some (differ_same (λ (y : Account). y.identifier) (x ∷ xs) x a h (inl refl) there (same_text x.identifier a.identifier e))
    at rest false e there =
        ⊎_elim (λ is. absurd (clash (is_account a.identifier x) (text_same x.identifier a.identifier (ap (λ (y : Account). y.identifier) is)) e)) rest there

pub named_there : (s : Ideal) (a : Account) → Differ s.accounts → One (λ (x : Account). x ≡ a) s.accounts → account_named s a.identifier ≡ Some a
named_there s a h one = found_there s.accounts a h one

-- the account that gets a version, or a set, is the only one of its identifier

pub gains_there : (s : Ideal) (uuid : Bytes) (a : Account) (w : Version) (next : List Account) → Gains s uuid a w next → Differ s.accounts
    → (x : Account) → One (λ (y : Account). y ≡ x) s.accounts → is_account a.identifier x ≡ true → a ≡ x
gains_there s uuid a w next g h x there is = one_account s a x h g.among there (sym (same_text x.identifier a.identifier is))

pub changes_there : (s : Ideal) (identifier : Bytes) (number : ℕ) (set : KeySet) (may : MayChange s identifier number set) → Differ s.accounts
    → (x : Account) → One (λ (y : Account). y ≡ x) s.accounts → is_account identifier x ≡ true → may.account ≡ x
changes_there s identifier number set may h x there is =
    let found = found_passes (is_account identifier) s.accounts may.account may.named in
    one_account s may.account x h found.1 there
    (same_text may.account.identifier identifier found.0 ∙ sym (same_text x.identifier identifier is))

-- ---- nonces

abbrev NoncesApart : Account → Type 0
NoncesApart a = AllDiffer (map (λ (k : KeySet). k.params.pw_nonce) a.sets)

-- identifiers and nonces, which are kept together
record Apart (xs : List Account) : Type 0 where
  identifiers : Differ xs
  nonces : Each NoncesApart xs

another_nonce : (s : Ideal) (identifier : Bytes) (number : ℕ) (set : KeySet) (may : MayChange s identifier number set) (x : Account) → Differ s.accounts
    → One (λ (y : Account). y ≡ x) s.accounts → is_account identifier x ≡ true → NoncesApart x → NoncesApart (more_sets set x)
another_nonce s identifier number set may x h there is k =
    let same : may.account ≡ x = changes_there s identifier number set may h x there is in
    let fresh : Each (λ (y : KeySet). y.params.pw_nonce ≢ set.params.pw_nonce) x.sets =
    subst (λ (y : Account). Each (λ (z : KeySet). z.params.pw_nonce ≢ set.params.pw_nonce) y.sets) same may.fresh in
    subst AllDiffer (sym (map_more (λ (y : KeySet). y.params.pw_nonce) x.sets set))
    (differ_more (map (λ (y : KeySet). y.params.pw_nonce) x.sets) set.params.pw_nonce k
    (mapped_each (λ (y : KeySet). y.params.pw_nonce) (λ n. n ≢ set.params.pw_nonce) x.sets fresh))

nonces_kept : (s : Ideal) (next : List Account) → Grows s next → Apart s.accounts → Each NoncesApart next
nonces_kept s next (stays e) h = subst (Each NoncesApart) (sym e) h.nonces
nonces_kept s next (begins b) h =
    subst (Each NoncesApart) (sym b.next_is)
    (each_more NoncesApart s.accounts (record { identifier = b.identifier; sets = b.set ∷ []; versions = [] }) h.nonces (tt, tt))
nonces_kept s next (gains uuid a w g) h =
    subst (Each NoncesApart) (sym g.next_is)
    (each_changed NoncesApart (is_account a.identifier) (more w) s.accounts h.nonces (λ x there is k. k))
nonces_kept s next (changes identifier number set c) h =
    subst (Each NoncesApart) (sym c.next_is)
    (each_changed NoncesApart (is_account identifier) (more_sets set) s.accounts h.nonces (λ x there is k. another_nonce s identifier number set c.may x h.identifiers there is k))

apart_kept : (s : Ideal) (next : List Account) → Grows s next → Apart s.accounts → Apart next
apart_kept s next g h = record { identifiers = differ_kept s next g h.identifiers; nonces = nonces_kept s next g h }

pub nonces_differ : (ms : List Move) → Legal ms → Each (λ (a : Account). AllDiffer (map (λ (k : KeySet). k.params.pw_nonce) a.sets)) (end ms).accounts
nonces_differ ms legal =
    (reached (λ (s : Ideal). Apart s.accounts) (λ s m h. apart_kept s (after s m).accounts (grows s m h)) empty ms legal
    (record { identifiers = tt; nonces = tt })).nonces

-- An item is sealed again once at most under each set.
use Rattle.std.proofs.Common.{◌≡◌, ◌<◌, ◌≤◌, ℕ, ◌+◌, List, [], ◌∷◌, ◌++◌, length, Some, Bool, true, false, refl, sym, ap, ◌∙◌, subst, arith}
use Rattle.std.specs.Prelude.{find, if◌then◌else◌}
use Rattle.std.specs.Str.{bytes_eq}
use Rattle.sn_laws.specs.declared.ideal.Body.TheVariants.{Under}
use Rattle.sn_laws.specs.declared.ideal.Version.{Version}
use Rattle.sn_laws.specs.declared.ideal.Account.{Account}
use Rattle.sn_laws.specs.declared.ideal.Ideal.{Ideal}
use Rattle.sn_laws.specs.declared.moves.Move.{Move}
use Rattle.sn_laws.specs.declared.moves.Move.TheVariants.{Rewrap}
use Rattle.sn_string.specs.declared.params.KeySet.{KeySet}
use Rattle.sn_laws.specs.Lookups.{Bytes, empty, has_item, is_account, last_of}
use Rattle.sn_laws.specs.Moves.{after}
use Rattle.sn_laws.specs.Relation.{IsUnder, MayRewrap}
use Rattle.sn_laws.specs.Runs.{Legal, LegalFrom, end, end_from}
use Rattle.sn_laws.proofs.AccountLemmas.{Gains, Grows, begins, changes, gains, grows, more, more_sets, rewrap_gains, sealed_again, stays}
use Rattle.sn_laws.proofs.ChangedLemmas.{find_changed}
use Rattle.sn_laws.proofs.EachLemmas.{clash, found_passes, same_text, text_same}
use Rattle.sn_laws.proofs.IdentifierLemmas.{Differ, differ_kept, gains_there, identifiers_differ}
use Rattle.sn_laws.proofs.FindLemmas.{find_before}
use Rattle.sn_laws.proofs.LastLemmas.{last_item, last_other, last_own}
use Rattle.sn_laws.proofs.OwnerLemmas.{same_account}
use Rattle.sn_laws.proofs.RelatedLemmas.{allowed_from, one_there}
use Rattle.sn_laws.proofs.RewrapLemmas.{live_under, rewrap_named}
use Rattle.sn_laws.proofs.RunLemmas.{end_from-append, legal_after, legal_before, reached}
use Rattle.sn_laws.proofs.SetLemmas.{length_more}

-- an account whose item's last version carries the set of this number, if that is still the last set and the version is live
record Sealed (identifier uuid : Bytes) (n : ℕ) (xs : List Account) : Type 0 where
  identifiers : Differ xs
  account : Account
  named : find (is_account identifier) xs ≡ Some account
  version : Version
  last : last_of uuid account.versions ≡ Some version
  below : n ≤ length account.sets
  carries : length account.sets ≡ n → (k : ℕ) → IsUnder k version.body → k ≡ n

-- the account stays as it is
sealed_still : (identifier uuid : Bytes) (n : ℕ) (xs next : List Account) → (h : Sealed identifier uuid n xs) → Differ next
    → find (is_account identifier) next ≡ Some h.account → Sealed identifier uuid n next
sealed_still identifier uuid n xs next h differ named =
    record {
      identifiers = differ;
      account = h.account;
      named = named;
      version = h.version;
      last = h.last;
      below = h.below;
      carries = h.carries;
    }

-- after a version of the account
sealed_more : (uuid : Bytes) (n : ℕ) (a : Account) (v w : Version) → last_of uuid a.versions ≡ Some v
    → (length a.sets ≡ n → (k : ℕ) → IsUnder k v.body → k ≡ n) → ((k : ℕ) → IsUnder k w.body → length a.sets ≡ k)
    → (x : Version) × (last_of uuid (a.versions ++ w ∷ []) ≡ Some x) × (length a.sets ≡ n → (k : ℕ) → IsUnder k x.body → k ≡ n)
sealed_more uuid n a v w last carries under = at (bytes_eq w.uuid uuid) refl
  where
    at : (b : Bool) → bytes_eq w.uuid uuid ≡ b
        → (x : Version) × (last_of uuid (a.versions ++ w ∷ []) ≡ Some x) × (length a.sets ≡ n → (k : ℕ) → IsUnder k x.body → k ≡ n)
    at true is = (w, last_own uuid a.versions w (same_text w.uuid uuid is), λ e k u. sym (under k u) ∙ e)
    at false is =
        (v, last_other uuid a.versions w (λ same. clash (bytes_eq w.uuid uuid) (text_same w.uuid uuid same) is) ∙ last, carries)

sealed_gained : (s : Ideal) (identifier uuid item : Bytes) (n : ℕ) (a : Account) (w : Version) (next : List Account) → Gains s item a w next
    → (h : Sealed identifier uuid n s.accounts) → Differ next → Sealed identifier uuid n next
sealed_gained s identifier uuid item n a w next g h differ =
    at (is_account a.identifier h.account) refl
    (ap (find (is_account identifier)) g.next_is
    ∙ find_changed (is_account identifier) (is_account a.identifier) (more w) (λ x. refl) s.accounts h.account h.named)
  where
    at : (b : Bool) → is_account a.identifier h.account ≡ b
        → find (is_account identifier) next ≡ Some (if b then more w h.account else h.account) → Sealed identifier uuid n next
    at true is found =
        let there = (found_passes (is_account identifier) s.accounts h.account h.named).1 in
        let same : a ≡ h.account = gains_there s item a w next g h.identifiers h.account there is in
        let under : (k : ℕ) → IsUnder k w.body → length h.account.sets ≡ k =
        subst (λ (x : Account). (k : ℕ) → IsUnder k w.body → length x.sets ≡ k) same g.under in
        let now = sealed_more uuid n h.account h.version w h.last h.carries under in
        record {
          identifiers = differ;
          account = more w h.account;
          named = found;
          version = now.0;
          last = now.1;
          below = h.below;
          carries = now.2;
        }
    at false is found = sealed_still identifier uuid n s.accounts next h differ found

sealed_changed : (s : Ideal) (identifier uuid other : Bytes) (n : ℕ) (set : KeySet) (next : List Account)
    → (h : Sealed identifier uuid n s.accounts) → Differ next
    → find (is_account identifier) next ≡ Some (if is_account other h.account then more_sets set h.account else h.account)
    → Sealed identifier uuid n next
sealed_changed s identifier uuid other n set next h differ named = at (is_account other h.account) named
  where
    at : (b : Bool) → find (is_account identifier) next ≡ Some (if b then more_sets set h.account else h.account) → Sealed identifier uuid n next
    at true found =
        let longer : length (h.account.sets ++ set ∷ []) ≡ length h.account.sets + 1 = length_more h.account.sets set in
        let most : n ≤ length h.account.sets = h.below in
        record {
          identifiers = differ;
          account = more_sets set h.account;
          named = found;
          version = h.version;
          last = h.last;
          below = omega (arith, longer, most);
          carries = λ e k u. absurd (omega (arith, longer, most, e));
        }
    at false found = sealed_still identifier uuid n s.accounts next h differ found

sealed_kept : (identifier uuid : Bytes) (n : ℕ) (s : Ideal) (next : List Account) → Grows s next → Sealed identifier uuid n s.accounts
    → Sealed identifier uuid n next
sealed_kept identifier uuid n s next (stays e) h = subst (Sealed identifier uuid n) (sym e) h
sealed_kept identifier uuid n s next (begins b) h =
    let new : Account = record { identifier = b.identifier; sets = b.set ∷ []; versions = [] } in
    sealed_still identifier uuid n s.accounts next h (differ_kept s next (begins b) h.identifiers)
    (ap (find (is_account identifier)) b.next_is ∙ find_before (is_account identifier) s.accounts (new ∷ []) h.account h.named)
sealed_kept identifier uuid n s next (gains item a w g) h =
    sealed_gained s identifier uuid item n a w next g h (differ_kept s next (gains item a w g) h.identifiers)
sealed_kept identifier uuid n s next (changes other number set c) h =
    sealed_changed s identifier uuid other n set next h (differ_kept s next (changes other number set c) h.identifiers)
    (ap (find (is_account identifier)) c.next_is
    ∙ find_changed (is_account identifier) (is_account other) (more_sets set) (λ x. refl) s.accounts h.account h.named)

sealed_first : (s : Ideal) (uuid : Bytes) (stamp under : ℕ) (may : MayRewrap s uuid stamp under) → Differ s.accounts
    → Differ (after s (Rewrap uuid stamp under)).accounts
    → Sealed may.account.identifier uuid under (after s (Rewrap uuid stamp under)).accounts
sealed_first s uuid stamp under may h differ =
    let a : Account = may.account in
    let w : Version = sealed_again stamp (length a.sets) may.version in
    let g = rewrap_gains s uuid stamp under may in
    let n_is : under ≡ length a.sets = may.last_set in
    record {
      identifiers = differ;
      account = more w a;
      named = rewrap_named s uuid stamp under may h;
      version = w;
      last = last_own uuid a.versions w g.item;
      below = omega (arith, n_is);
      carries = λ e k u. sym (g.under k u) ∙ e;
    }

-- a later rewrap of the item is under a later set
sealed_then : (s : Ideal) (identifier uuid : Bytes) (n stamp under : ℕ) (may : MayRewrap s uuid stamp under) → (h : Sealed identifier uuid n s.accounts)
    → may.account ≡ h.account → n < under
sealed_then s identifier uuid n stamp under may h same =
    let last : last_of uuid may.account.versions ≡ Some h.version =
    subst (λ (x : Account). last_of uuid x.versions ≡ Some h.version) (sym same) h.last in
    let version : may.version ≡ h.version = one_there may.version h.version (last_of uuid may.account.versions) may.last last in
    let live = live_under may.version.body may.live in
    let most : n ≤ length may.account.sets = subst (λ (x : Account). n ≤ length x.sets) (sym same) h.below in
    let is : under ≡ length may.account.sets = may.last_set in
    let not_same : ¬ (length may.account.sets ≡ n) = λ e. may.behind (behind_not live.0 live.1 live.2 e version) in
    omega (arith, most, is, not_same)
  where
    behind_not : (text : Bytes) (set : ℕ) → may.version.body ≡ Under text set → length may.account.sets ≡ n → may.version ≡ h.version
        → IsUnder (length may.account.sets) may.version.body
    behind_not text set body e version =
        let carries : (k : ℕ) → IsUnder k may.version.body → k ≡ n =
        subst (λ (v : Version). (k : ℕ) → IsUnder k v.body → k ≡ n) (sym version)
        (h.carries (ap (λ (x : Account). length x.sets) (sym same) ∙ e)) in
        let under_set : IsUnder set may.version.body = subst (IsUnder set) (sym body) refl in
        subst (λ k. IsUnder k may.version.body) (carries set under_set ∙ sym e) under_set

pub rewrapped_once : (ms between : List Move) (uuid : Bytes) (stamp later under under_later : ℕ)
    → Legal ((ms ++ Rewrap uuid stamp under ∷ between) ++ Rewrap uuid later under_later ∷ []) → under < under_later
rewrapped_once ms between uuid stamp later under under_later legal =
    let first : Move = Rewrap uuid stamp under in
    let last : Move = Rewrap uuid later under_later in
    let whole : List Move = ms ++ first ∷ between in
    let legal_whole : Legal whole = legal_before empty whole (last ∷ []) legal in
    let legal_first : LegalFrom (end ms) (first ∷ between) = legal_after empty ms (first ∷ between) legal_whole in
    let may : MayRewrap (end ms) uuid stamp under = allowed_from (end ms) first legal_first.0 in
    let may_later : MayRewrap (end whole) uuid later under_later = allowed_from (end whole) last (legal_after empty whole (last ∷ []) legal).0 in
    let differ : Differ (end ms).accounts = identifiers_differ ms (legal_before empty ms (first ∷ between) legal_whole) in
    let next : List Account = (after (end ms) first).accounts in
    let differ_next : Differ next = differ_kept (end ms) next (grows (end ms) first legal_first.0) differ in
    let name : Bytes = may.account.identifier in
    let kept : Sealed name uuid under (end_from (after (end ms) first) between).accounts =
    reached (λ (s : Ideal). Sealed name uuid under s.accounts) (λ s m h. sealed_kept name uuid under s (after s m).accounts (grows s m h))
    (after (end ms) first) between legal_first.1 (sealed_first (end ms) uuid stamp under may differ differ_next) in
    let h : Sealed name uuid under (end whole).accounts =
    subst (λ (s : Ideal). Sealed name uuid under s.accounts) (sym (end_from-append empty ms (first ∷ between))) kept in
    sealed_then (end whole) name uuid under later under_later may_later h
    (same_account whole uuid may_later.account h.account legal_whole (found_passes (has_item uuid) (end whole).accounts may_later.account may_later.has).1
    (found_passes (is_account name) (end whole).accounts h.account h.named).1 (last_item uuid may_later.account.versions may_later.version may_later.last)
    (last_item uuid h.account.versions h.version h.last))

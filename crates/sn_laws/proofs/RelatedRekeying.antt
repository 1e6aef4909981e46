-- The tests of the code are the relation: the moves of a change of password.
use Rattle.std.proofs.Common.{◌≡◌, ◌≢◌, ◌<◌, ℕ, ◌+◌, List, length, Option, Some, None, Bool, true, false, refl, ap, ◌∙◌}
use Rattle.std.specs.Prelude.{◌&&◌, ◌==◌, not, is_some, nat_lt}
use Rattle.std.specs.List.{list_any}
use Rattle.std.specs.Str.{bytes_eq}
use Rattle.std.proofs.lemmas.Bool.{and_parts}
use Rattle.sn_string.specs.declared.params.KeySet.{KeySet}
use Rattle.sn_laws.specs.declared.ideal.Body.{Body}
use Rattle.sn_laws.specs.declared.ideal.Body.TheVariants.{Under, Gone}
use Rattle.sn_laws.specs.declared.ideal.Version.{Version}
use Rattle.sn_laws.specs.declared.ideal.Posted.{Posted}
use Rattle.sn_laws.specs.declared.ideal.Ideal.{Ideal}
use Rattle.sn_laws.specs.Lookups.{Bytes, account_named, account_of, account_with, device_named, draft_at, held_by, last_of}
use Rattle.sn_laws.specs.Moves.{is_based, is_behind, is_carrier, is_live, is_new_stamp, is_sent_before, is_under, may_change, may_retire, may_rewrap, may_unpost, most_sets, none_behind, none_carries, number_is}
use Rattle.sn_laws.specs.Relation.{IsBased, IsLive, IsUnder, MayChange, MayRetire, MayRewrap, MayUnpost}
use Rattle.sn_laws.proofs.EachLemmas.{and_both, below, each_from, each_to, is_below, none_from, none_to, not_false, not_true, number_same, one_from, one_to, same_number, same_text, text_same}
use Rattle.sn_laws.proofs.LastLemmas.{each_last, each_version}
use Rattle.sn_laws.proofs.RelatedParts.{all_four, all_three, draft_found, draft_passes, four, live_from, live_to, new_from, new_to, not_from, not_to, number_to, some_found, some_passes, three}

-- Unpost

-- what was sent has the number of another set
record SentBefore (n : ℕ) (found : Option Posted) : Type 0 where
  posted : Posted
  sent : found ≡ Some posted
  number : ℕ
  number_is : posted.set ≡ Some number
  before : number ≢ n

sent_before_from : (n : ℕ) (found : Option Posted) → is_sent_before n found ≡ true → SentBefore n found
sent_before_from n found h =
    let p = some_found found (is_sent_before n) refl h in
    let both = and_parts (is_some p.0.set) (not (number_is n p.0.set)) p.2 in
    let m = some_found p.0.set is_some refl both.0 in
    record {
      posted = p.0;
      sent = p.1;
      number = m.0;
      number_is = m.1;
      before = not_from (number_is n p.0.set) (m.0 ≡ n) (λ e. number_to n p.0.set (m.1 ∙ ap Some e)) both.1;
    }

sent_before_to : (n : ℕ) (p : Posted) (found : Option Posted) (m : ℕ) → found ≡ Some p → p.set ≡ Some m → m ≢ n → is_sent_before n found ≡ true
sent_before_to n p found m sent set apart =
    some_passes p found (is_sent_before n) sent
    (some_passes m p.set (λ x. is_some x && not (number_is n x)) set (not_to (m == n) (m ≡ n) (same_number m n) apart))

based_from : (base : Option ℕ) (last : Option Version) → is_based base last ≡ true → IsBased base last
based_from None None h = refl
based_from None (Some v) h = absurd (cc)
based_from (Some stamp) None h = absurd (cc)
based_from (Some stamp) (Some v) h = (v, refl, same_number v.stamp stamp h)

based_to : (base : Option ℕ) (last : Option Version) → IsBased base last → is_based base last ≡ true
based_to None None h = refl
based_to None (Some v) h = absurd (cc)
based_to (Some stamp) last h = some_passes h.0 last (is_based (Some stamp)) h.1 (number_same h.0.stamp stamp h.2)

pub unpost_from : (s : Ideal) (device uuid : Bytes) → may_unpost (account_of s device) (draft_at s device uuid) uuid ≡ true → MayUnpost s device uuid
unpost_from s device uuid h =
    let at = draft_found s device uuid (λ a d. may_unpost a d uuid) (λ _. refl) (λ _. refl) h in
    let last : Option Version = last_of uuid at.account.versions in
    let both = and_parts (is_sent_before (length at.account.sets) at.draft.posted) (is_based at.draft.base last) at.passes in
    let sent = sent_before_from (length at.account.sets) at.draft.posted both.0 in
    record {
      account = at.account;
      draft = at.draft;
      is = at.is;
      posted = sent.posted;
      sent = sent.sent;
      number = sent.number;
      number_is = sent.number_is;
      before = sent.before;
      based = based_from at.draft.base last both.1;
    }

pub unpost_to : (s : Ideal) (device uuid : Bytes) → MayUnpost s device uuid → may_unpost (account_of s device) (draft_at s device uuid) uuid ≡ true
unpost_to s device uuid h =
    let last : Option Version = last_of uuid h.account.versions in
    draft_passes s device uuid (λ a d. may_unpost a d uuid) h.account h.draft h.is
    (and_both (is_sent_before (length h.account.sets) h.draft.posted) (is_based h.draft.base last)
    (sent_before_to (length h.account.sets) h.posted h.draft.posted h.number h.sent h.number_is h.before) (based_to h.draft.base last h.based))

-- Rewrap

under_from : (n : ℕ) (b : Body) → is_under n b ≡ true → IsUnder n b
under_from n (Under text set) h = same_number set n h
under_from n Gone h = absurd (cc)

under_to : (n : ℕ) (b : Body) → IsUnder n b → is_under n b ≡ true
under_to n (Under text set) h = number_same set n h
under_to n Gone h = absurd h

pub rewrap_from : (s : Ideal) (uuid : Bytes) (stamp under : ℕ) → may_rewrap s.accounts (account_with s.accounts uuid) uuid stamp under ≡ true
    → MayRewrap s uuid stamp under
rewrap_from s uuid stamp under h =
    let a = some_found (account_with s.accounts uuid) (λ x. may_rewrap s.accounts x uuid stamp under) refl h in
    let n : ℕ = length a.0.sets in
    let parts = three (is_behind n (last_of uuid a.0.versions)) (under == n) (is_new_stamp s.accounts stamp) a.2 in
    let last = some_found (last_of uuid a.0.versions) (is_behind n) refl parts.0 in
    let both = and_parts (is_live last.0.body) (not (is_under n last.0.body)) last.2 in
    record {
      account = a.0;
      has = a.1;
      version = last.0;
      last = last.1;
      live = live_from last.0.body both.0;
      behind = not_from (is_under n last.0.body) (IsUnder n last.0.body) (under_to n last.0.body) both.1;
      last_set = same_number under n parts.1;
      new = new_from s stamp parts.2;
    }

pub rewrap_to : (s : Ideal) (uuid : Bytes) (stamp under : ℕ) → MayRewrap s uuid stamp under
    → may_rewrap s.accounts (account_with s.accounts uuid) uuid stamp under ≡ true
rewrap_to s uuid stamp under h =
    let n : ℕ = length h.account.sets in
    let v : Version = h.version in
    some_passes h.account (account_with s.accounts uuid) (λ x. may_rewrap s.accounts x uuid stamp under) h.has
    (all_three (is_behind n (last_of uuid h.account.versions)) (under == n) (is_new_stamp s.accounts stamp)
    (some_passes v (last_of uuid h.account.versions) (is_behind n) h.last
    (and_both (is_live v.body) (not (is_under n v.body)) (live_to v.body h.live) (not_to (is_under n v.body) (IsUnder n v.body) (under_from n v.body) h.behind)))
    (number_same under n h.last_set) (new_to s stamp h.new))

-- Change

-- an item's last version, if it is live, carries the set of this number
abbrev InStep : ℕ → List Version → Bytes → Type 0
InStep n vs uuid = (v : Version) → last_of uuid vs ≡ Some v → IsLive v.body → IsUnder n v.body

in_step_from : (n : ℕ) (vs : List Version) (uuid : Bytes) → not (is_behind n (last_of uuid vs)) ≡ true → InStep n vs uuid
in_step_from n vs uuid h v e live = at (is_under n v.body) refl
  where
    at : (b : Bool) → is_under n v.body ≡ b → IsUnder n v.body
    at true k = under_from n v.body k
    at false k =
        absurd (not_from (is_behind n (last_of uuid vs)) (is_under n v.body ≡ false)
        (λ f. some_passes v (last_of uuid vs) (is_behind n) e (and_both (is_live v.body) (not (is_under n v.body)) (live_to v.body live) (not_true (is_under n v.body) f))) h k)

in_step_to : (n : ℕ) (vs : List Version) (uuid : Bytes) → InStep n vs uuid → not (is_behind n (last_of uuid vs)) ≡ true
in_step_to n vs uuid h = not_to (is_behind n (last_of uuid vs)) ⊥ behind (λ f. f)
  where
    behind : is_behind n (last_of uuid vs) ≡ true → ⊥
    behind k =
        let last = some_found (last_of uuid vs) (is_behind n) refl k in
        let both = and_parts (is_live last.0.body) (not (is_under n last.0.body)) last.2 in
        not_from (is_under n last.0.body) (IsUnder n last.0.body) (under_to n last.0.body) both.1 (h last.0 last.1 (live_from last.0.body both.0))

pub change_from : (s : Ideal) (identifier : Bytes) (number : ℕ) (set : KeySet) → may_change (account_named s identifier) number set ≡ true → MayChange s identifier number set
change_from s identifier number set h =
    let a = some_found (account_named s identifier) (λ x. may_change x number set) refl h in
    let n : ℕ = length a.0.sets in
    let used : Bool = list_any (λ (k : KeySet). bytes_eq k.params.pw_nonce set.params.pw_nonce) a.0.sets in
    let vs : List Version = a.0.versions in
    let parts = four (not used) (nat_lt n most_sets) (none_behind n vs) (number == n + 1) a.2 in
    record {
      account = a.0;
      named = a.1;
      fresh = none_from (λ (k : KeySet). bytes_eq k.params.pw_nonce set.params.pw_nonce) (λ (k : KeySet). k.params.pw_nonce ≡ set.params.pw_nonce)
          (λ k e. text_same k.params.pw_nonce set.params.pw_nonce e) a.0.sets (not_false used parts.0);
      few = below n most_sets parts.1;
      same = λ uuid v e. each_last (InStep n vs) vs
          (each_from (λ (w : Version). not (is_behind n (last_of w.uuid vs))) (λ (w : Version). InStep n vs w.uuid) (λ w. in_step_from n vs w.uuid) vs parts.2)
          uuid v e v e;
      next = same_number number (n + 1) parts.3;
    }

pub change_to : (s : Ideal) (identifier : Bytes) (number : ℕ) (set : KeySet) → MayChange s identifier number set → may_change (account_named s identifier) number set ≡ true
change_to s identifier number set h =
    let n : ℕ = length h.account.sets in
    let vs : List Version = h.account.versions in
    let used : Bool = list_any (λ (k : KeySet). bytes_eq k.params.pw_nonce set.params.pw_nonce) h.account.sets in
    some_passes h.account (account_named s identifier) (λ x. may_change x number set) h.named
    (all_four (not used) (nat_lt n most_sets) (none_behind n vs) (number == n + 1)
    (not_true used (none_to (λ (k : KeySet). bytes_eq k.params.pw_nonce set.params.pw_nonce) (λ (k : KeySet). k.params.pw_nonce ≡ set.params.pw_nonce)
    (λ k e. same_text k.params.pw_nonce set.params.pw_nonce e) h.account.sets h.fresh))
    (is_below n most_sets h.few)
    (each_to (λ (v : Version). not (is_behind n (last_of v.uuid vs))) (λ (v : Version). InStep n vs v.uuid) (λ v. in_step_to n vs v.uuid) vs
    (each_version (InStep n vs) vs h.same)) (number_same number (n + 1) h.next))

-- Retire

-- an item's last version doesn't carry the set of this number
abbrev Spared : ℕ → List Version → Bytes → Type 0
Spared n vs uuid = (v : Version) → last_of uuid vs ≡ Some v → ¬ (IsUnder n v.body)

spared_from : (n : ℕ) (vs : List Version) (uuid : Bytes) → not (is_carrier n (last_of uuid vs)) ≡ true → Spared n vs uuid
spared_from n vs uuid h v e =
    not_from (is_carrier n (last_of uuid vs)) (IsUnder n v.body) (λ k. some_passes v (last_of uuid vs) (is_carrier n) e (under_to n v.body k)) h

spared_to : (n : ℕ) (vs : List Version) (uuid : Bytes) → Spared n vs uuid → not (is_carrier n (last_of uuid vs)) ≡ true
spared_to n vs uuid h = not_to (is_carrier n (last_of uuid vs)) ⊥ carries (λ f. f)
  where
    carries : is_carrier n (last_of uuid vs) ≡ true → ⊥
    carries k =
        let last = some_found (last_of uuid vs) (is_carrier n) refl k in
        h last.0 last.1 (under_from n last.0.body last.2)

pub retire_from : (s : Ideal) (device : Bytes) (number : ℕ) → may_retire (account_of s device) (held_by (device_named s device)) number ≡ true
    → MayRetire s device number
retire_from s device number h =
    let held : List ℕ = held_by (device_named s device) in
    let a = some_found (account_of s device) (λ x. may_retire x held number) refl h in
    let vs : List Version = a.0.versions in
    let parts = three (list_any (λ m. m == number) held) (list_any (λ m. nat_lt number m) held) (none_carries number vs) a.2 in
    record {
      account = a.0;
      has = a.1;
      holds = one_from (λ m. m == number) (λ m. m ≡ number) (λ m e. same_number m number e) held parts.0;
      greater = one_from (λ m. nat_lt number m) (λ m. number < m) (λ m e. below number m e) held parts.1;
      unused = λ uuid v e. each_last (Spared number vs) vs
          (each_from (λ (w : Version). not (is_carrier number (last_of w.uuid vs))) (λ (w : Version). Spared number vs w.uuid)
          (λ w. spared_from number vs w.uuid) vs parts.2)
          uuid v e v e;
    }

pub retire_to : (s : Ideal) (device : Bytes) (number : ℕ) → MayRetire s device number
    → may_retire (account_of s device) (held_by (device_named s device)) number ≡ true
retire_to s device number h =
    let held : List ℕ = held_by (device_named s device) in
    let vs : List Version = h.account.versions in
    some_passes h.account (account_of s device) (λ x. may_retire x held number) h.has
    (all_three (list_any (λ m. m == number) held) (list_any (λ m. nat_lt number m) held) (none_carries number vs)
    (one_to (λ m. m == number) (λ m. m ≡ number) (λ m e. number_same m number e) held h.holds)
    (one_to (λ m. nat_lt number m) (λ m. number < m) (λ m e. is_below number m e) held h.greater)
    (each_to (λ (v : Version). not (is_carrier number (last_of v.uuid vs))) (λ (v : Version). Spared number vs v.uuid) (λ v. spared_to number vs v.uuid) vs
    (each_version (Spared number vs) vs h.unused)))

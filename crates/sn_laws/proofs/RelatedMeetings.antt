-- The tests of the code are the relation: drafts that meet a version, or another account's item.
use Rattle.std.proofs.Common.{◌≡◌, ◌≢◌, ℕ, List, Option, Some, None, Bool, true, refl}
use Rattle.std.specs.Prelude.{◌&&◌, ◌||◌, ◌==◌, not, is_none}
use Rattle.std.specs.List.{list_any}
use Rattle.std.proofs.lemmas.Bool.{and_parts}
use Rattle.sn_laws.specs.declared.ideal.Content.TheVariants.{Deleted}
use Rattle.sn_laws.specs.declared.ideal.Body.{Body}
use Rattle.sn_laws.specs.declared.ideal.Body.TheVariants.{Under, Gone}
use Rattle.sn_laws.specs.declared.ideal.Version.{Version}
use Rattle.sn_laws.specs.declared.ideal.Account.{Account}
use Rattle.sn_laws.specs.declared.ideal.Draft.{Draft}
use Rattle.sn_laws.specs.declared.ideal.Ideal.{Ideal}
use Rattle.sn_laws.specs.Each.{One}
use Rattle.sn_laws.specs.Lookups.{Bytes, account_of, device_named, draft_at, has_item, held_by, is_account, is_of, last_of}
use Rattle.sn_laws.specs.Moves.{is_content_of, is_elsewhere, is_last_sent, is_live, is_other, is_passed, is_plain, is_sent_as, is_unseen, may_drop, may_fork, may_give_way, may_rename, may_settle_posted, meets_live, meets_other, number_is}
use Rattle.sn_laws.specs.Relation.{IsAnother, IsContentOf, IsElsewhere, IsSentAs, IsUnseen, MayDrop, MayFork, MayGiveWay, MayRename, MaySettlePosted}
use Rattle.sn_laws.proofs.EachLemmas.{and_both, none_from, none_to, not_false, not_true, number_same, one_from, one_to, same_number, same_text, text_same}
use Rattle.sn_laws.proofs.RelatedParts.{all_three, content_from, content_to, deleted_from, deleted_to, draft_found, draft_passes, either_from, either_to, is_nothing, live_from, live_to, none_is, not_from, not_to, number_from, number_to, plain_from, plain_to, some_found, some_passes, three}

-- what a draft meets

sent_as_from : (d : Draft) (v : Version) → is_sent_as d.kind d.posted v ≡ true → IsSentAs d v
sent_as_from d v h =
    let p = some_found d.posted (λ x. is_sent_as d.kind x v) refl h in
    (p.0, p.1, content_from d.kind p.0.content v.kind v.body p.2)

sent_as_to : (d : Draft) (v : Version) → IsSentAs d v → is_sent_as d.kind d.posted v ≡ true
sent_as_to d v h = some_passes h.0 d.posted (λ x. is_sent_as d.kind x v) h.1 (content_to d.kind h.0.content v.kind v.body h.2)

unseen_from : (held : List ℕ) (b : Body) → is_unseen held b ≡ true → IsUnseen held b
unseen_from held (Under text set) h =
    none_from (λ m. m == set) (λ m. m ≡ set) (λ m e. number_same m set e) held (not_false (list_any (λ m. m == set) held) h)
unseen_from held Gone h = absurd (cc)

unseen_to : (held : List ℕ) (b : Body) → IsUnseen held b → is_unseen held b ≡ true
unseen_to held (Under text set) h =
    not_true (list_any (λ m. m == set) held) (none_to (λ m. m == set) (λ m. m ≡ set) (λ m e. same_number m set e) held h)
unseen_to held Gone h = absurd h

passed_from : (base : Option ℕ) (v : Version) → is_passed base v ≡ true → base ≢ Some v.stamp
passed_from base v h = not_from (number_is v.stamp base) (base ≡ Some v.stamp) (number_to v.stamp base) h

passed_to : (base : Option ℕ) (v : Version) → base ≢ Some v.stamp → is_passed base v ≡ true
passed_to base v h = not_to (number_is v.stamp base) (base ≡ Some v.stamp) (number_from v.stamp base) h

not_sent_from : (d : Draft) (v : Version) → not (is_sent_as d.kind d.posted v) ≡ true → ¬ (IsSentAs d v)
not_sent_from d v h = not_from (is_sent_as d.kind d.posted v) (IsSentAs d v) (sent_as_to d v) h

not_sent_to : (d : Draft) (v : Version) → ¬ (IsSentAs d v) → not (is_sent_as d.kind d.posted v) ≡ true
not_sent_to d v h = not_to (is_sent_as d.kind d.posted v) (IsSentAs d v) (sent_as_from d v) h

-- neither the draft's content nor what was sent of it is the version's
abbrev IsNeither : Draft → Version → Type 0
IsNeither d v = (¬ (IsContentOf d.kind d.latest v.kind v.body)) × (¬ (IsSentAs d v))

neither_from : (d : Draft) (v : Version) → (not (is_content_of d.kind d.latest v.kind v.body) && not (is_sent_as d.kind d.posted v)) ≡ true → IsNeither d v
neither_from d v h =
    let both = and_parts (not (is_content_of d.kind d.latest v.kind v.body)) (not (is_sent_as d.kind d.posted v)) h in (
      not_from (is_content_of d.kind d.latest v.kind v.body) (IsContentOf d.kind d.latest v.kind v.body)
          (content_to d.kind d.latest v.kind v.body) both.0,
      not_sent_from d v both.1,
    )

neither_to : (d : Draft) (v : Version) → IsNeither d v → (not (is_content_of d.kind d.latest v.kind v.body) && not (is_sent_as d.kind d.posted v)) ≡ true
neither_to d v h =
    and_both (not (is_content_of d.kind d.latest v.kind v.body)) (not (is_sent_as d.kind d.posted v))
    (not_to (is_content_of d.kind d.latest v.kind v.body) (IsContentOf d.kind d.latest v.kind v.body) (content_from d.kind d.latest v.kind v.body) h.0)
    (not_sent_to d v h.1)

another_from : (held : List ℕ) (d : Draft) (v : Version) → (is_passed d.base v && is_other held d v) ≡ true → IsAnother held d v
another_from held d v h =
    let both = and_parts (is_passed d.base v) (is_other held d v) h in
    record {
      passed = passed_from d.base v both.0;
      other = either_from (is_unseen held v.body) (not (is_content_of d.kind d.latest v.kind v.body) && not (is_sent_as d.kind d.posted v))
          (IsUnseen held v.body) (IsNeither d v) (unseen_from held v.body) (neither_from d v) both.1;
    }

another_to : (held : List ℕ) (d : Draft) (v : Version) → IsAnother held d v → (is_passed d.base v && is_other held d v) ≡ true
another_to held d v h =
    and_both (is_passed d.base v) (is_other held d v) (passed_to d.base v h.passed)
    (either_to (is_unseen held v.body) (not (is_content_of d.kind d.latest v.kind v.body) && not (is_sent_as d.kind d.posted v))
    (IsUnseen held v.body) (IsNeither d v) (unseen_to held v.body) (neither_to d v) h.other)

-- SettlePosted

pub settle_posted_from : (s : Ideal) (device uuid : Bytes) (stamp : ℕ) → may_settle_posted (account_of s device) (draft_at s device uuid) uuid stamp ≡ true
    → MaySettlePosted s device uuid stamp
settle_posted_from s device uuid stamp h =
    let at = draft_found s device uuid (λ a d. may_settle_posted a d uuid stamp) (λ _. refl) (λ _. refl) h in
    let last = some_found (last_of uuid at.account.versions) (is_last_sent at.draft stamp) refl at.passes in
    let both = and_parts (is_sent_as at.draft.kind at.draft.posted last.0) (last.0.stamp == stamp) last.2 in
    record {
      account = at.account;
      draft = at.draft;
      version = last.0;
      meets = record { is = at.is; last = last.1 };
      sent = sent_as_from at.draft last.0 both.0;
      stamp_is = same_number last.0.stamp stamp both.1;
    }

pub settle_posted_to : (s : Ideal) (device uuid : Bytes) (stamp : ℕ) → MaySettlePosted s device uuid stamp
    → may_settle_posted (account_of s device) (draft_at s device uuid) uuid stamp ≡ true
settle_posted_to s device uuid stamp h =
    draft_passes s device uuid (λ a d. may_settle_posted a d uuid stamp) h.account h.draft h.meets.is
    (some_passes h.version (last_of uuid h.account.versions) (is_last_sent h.draft stamp) h.meets.last
    (and_both (is_sent_as h.draft.kind h.draft.posted h.version) (h.version.stamp == stamp) (sent_as_to h.draft h.version h.sent)
    (number_same h.version.stamp stamp h.stamp_is)))

-- Fork

pub fork_from : (s : Ideal) (device uuid other : Bytes)
    → may_fork (account_of s device) (held_by (device_named s device)) (draft_at s device uuid) (draft_at s device other) uuid ≡ true
    → MayFork s device uuid other
fork_from s device uuid other h =
    let held : List ℕ = held_by (device_named s device) in
    let at = draft_found s device uuid (λ a d. may_fork a held d (draft_at s device other) uuid) (λ _. refl) (λ _. refl) h in
    let parts = three (is_plain at.draft.latest) (is_none (draft_at s device other)) (meets_other held at.draft (last_of uuid at.account.versions)) at.passes in
    let last = some_found (last_of uuid at.account.versions) (meets_other held at.draft) refl parts.2 in
    record {
      account = at.account;
      draft = at.draft;
      version = last.0;
      meets = record { is = at.is; last = last.1 };
      plain = plain_from at.draft.latest parts.0;
      another = another_from held at.draft last.0 last.2;
      free = none_is (draft_at s device other) parts.1;
    }

pub fork_to : (s : Ideal) (device uuid other : Bytes) → MayFork s device uuid other
    → may_fork (account_of s device) (held_by (device_named s device)) (draft_at s device uuid) (draft_at s device other) uuid ≡ true
fork_to s device uuid other h =
    let held : List ℕ = held_by (device_named s device) in
    draft_passes s device uuid (λ a d. may_fork a held d (draft_at s device other) uuid) h.account h.draft h.meets.is
    (all_three (is_plain h.draft.latest) (is_none (draft_at s device other)) (meets_other held h.draft (last_of uuid h.account.versions))
    (plain_to h.draft.latest h.plain) (is_nothing (draft_at s device other) h.free)
    (some_passes h.version (last_of uuid h.account.versions) (meets_other held h.draft) h.meets.last (another_to held h.draft h.version h.another)))

-- GiveWay

pub give_way_from : (s : Ideal) (device uuid : Bytes)
    → may_give_way (account_of s device) (held_by (device_named s device)) (draft_at s device uuid) uuid ≡ true → MayGiveWay s device uuid
give_way_from s device uuid h =
    let held : List ℕ = held_by (device_named s device) in
    let at = draft_found s device uuid (λ a d. may_give_way a held d uuid) (λ _. refl) (λ _. refl) h in
    let both = and_parts (not (is_plain at.draft.latest)) (meets_live held at.draft (last_of uuid at.account.versions)) at.passes in
    let last = some_found (last_of uuid at.account.versions) (meets_live held at.draft) refl both.1 in
    let v : Version = last.0 in
    let sent : Bool = is_sent_as at.draft.kind at.draft.posted v in
    let parts = three (is_live v.body) (is_passed at.draft.base v) (is_unseen held v.body || not sent) last.2 in
    record {
      account = at.account;
      draft = at.draft;
      version = v;
      meets = record { is = at.is; last = last.1 };
      deleted = deleted_from at.draft.latest both.0;
      live = live_from v.body parts.0;
      passed = passed_from at.draft.base v parts.1;
      other = either_from (is_unseen held v.body) (not sent) (IsUnseen held v.body) (¬ (IsSentAs at.draft v)) (unseen_from held v.body)
          (not_sent_from at.draft v) parts.2;
    }

pub give_way_to : (s : Ideal) (device uuid : Bytes) → MayGiveWay s device uuid
    → may_give_way (account_of s device) (held_by (device_named s device)) (draft_at s device uuid) uuid ≡ true
give_way_to s device uuid h =
    let held : List ℕ = held_by (device_named s device) in
    let v : Version = h.version in
    let sent : Bool = is_sent_as h.draft.kind h.draft.posted v in
    draft_passes s device uuid (λ a d. may_give_way a held d uuid) h.account h.draft h.meets.is
    (and_both (not (is_plain h.draft.latest)) (meets_live held h.draft (last_of uuid h.account.versions)) (deleted_to h.draft.latest h.deleted)
    (some_passes v (last_of uuid h.account.versions) (meets_live held h.draft) h.meets.last
    (all_three (is_live v.body) (is_passed h.draft.base v) (is_unseen held v.body || not sent) (live_to v.body h.live) (passed_to h.draft.base v h.passed)
    (either_to (is_unseen held v.body) (not sent) (IsUnseen held v.body) (¬ (IsSentAs h.draft v)) (unseen_to held v.body) (not_sent_to h.draft v) h.other))))

-- items of other accounts

-- an account other than this one, with versions of the item
abbrev HasElsewhere : Account → Bytes → Account → Type 0
HasElsewhere a uuid b = (b.identifier ≢ a.identifier) × One (λ (v : Version). v.uuid ≡ uuid) b.versions

has_elsewhere_from : (a : Account) (uuid : Bytes) (b : Account) → (not (is_account a.identifier b) && has_item uuid b) ≡ true → HasElsewhere a uuid b
has_elsewhere_from a uuid b h =
    let both = and_parts (not (is_account a.identifier b)) (has_item uuid b) h in (
      not_from (is_account a.identifier b) (b.identifier ≡ a.identifier) (text_same b.identifier a.identifier) both.0,
      one_from (is_of uuid) (λ (v : Version). v.uuid ≡ uuid) (λ v e. same_text v.uuid uuid e) b.versions both.1,
    )

has_elsewhere_to : (a : Account) (uuid : Bytes) (b : Account) → HasElsewhere a uuid b → (not (is_account a.identifier b) && has_item uuid b) ≡ true
has_elsewhere_to a uuid b h =
    and_both (not (is_account a.identifier b)) (has_item uuid b)
    (not_to (is_account a.identifier b) (b.identifier ≡ a.identifier) (same_text b.identifier a.identifier) h.0)
    (one_to (is_of uuid) (λ (v : Version). v.uuid ≡ uuid) (λ v e. text_same v.uuid uuid e) b.versions h.1)

elsewhere_from : (s : Ideal) (a : Account) (uuid : Bytes) → is_elsewhere s.accounts a uuid ≡ true → IsElsewhere s a uuid
elsewhere_from s a uuid h =
    one_from (λ b. not (is_account a.identifier b) && has_item uuid b) (HasElsewhere a uuid) (has_elsewhere_from a uuid) s.accounts h

elsewhere_to : (s : Ideal) (a : Account) (uuid : Bytes) → IsElsewhere s a uuid → is_elsewhere s.accounts a uuid ≡ true
elsewhere_to s a uuid h = one_to (λ b. not (is_account a.identifier b) && has_item uuid b) (HasElsewhere a uuid) (has_elsewhere_to a uuid) s.accounts h

-- Rename

pub rename_from : (s : Ideal) (device uuid other : Bytes)
    → may_rename s.accounts (account_of s device) (draft_at s device uuid) (draft_at s device other) uuid ≡ true → MayRename s device uuid other
rename_from s device uuid other h =
    let at = draft_found s device uuid (λ a d. may_rename s.accounts a d (draft_at s device other) uuid) (λ _. refl) (λ _. refl) h in
    let parts = three (is_none at.draft.base) (is_none (draft_at s device other)) (is_elsewhere s.accounts at.account uuid) at.passes in
    record {
      account = at.account;
      draft = at.draft;
      is = at.is;
      new = none_is at.draft.base parts.0;
      elsewhere = elsewhere_from s at.account uuid parts.2;
      free = none_is (draft_at s device other) parts.1;
    }

pub rename_to : (s : Ideal) (device uuid other : Bytes) → MayRename s device uuid other
    → may_rename s.accounts (account_of s device) (draft_at s device uuid) (draft_at s device other) uuid ≡ true
rename_to s device uuid other h =
    draft_passes s device uuid (λ a d. may_rename s.accounts a d (draft_at s device other) uuid) h.account h.draft h.is
    (all_three (is_none h.draft.base) (is_none (draft_at s device other)) (is_elsewhere s.accounts h.account uuid) (is_nothing h.draft.base h.new)
    (is_nothing (draft_at s device other) h.free) (elsewhere_to s h.account uuid h.elsewhere))

-- Drop

-- the draft is deleted, and another account has its item
abbrev IsLost : Ideal → Account → Bytes → Draft → Type 0
IsLost s a uuid d = (d.latest ≡ Deleted) × IsElsewhere s a uuid

lost_from : (s : Ideal) (a : Account) (uuid : Bytes) (d : Draft) → (not (is_plain d.latest) && is_elsewhere s.accounts a uuid) ≡ true → IsLost s a uuid d
lost_from s a uuid d h =
    let both = and_parts (not (is_plain d.latest)) (is_elsewhere s.accounts a uuid) h in
    (deleted_from d.latest both.0, elsewhere_from s a uuid both.1)

lost_to : (s : Ideal) (a : Account) (uuid : Bytes) (d : Draft) → IsLost s a uuid d → (not (is_plain d.latest) && is_elsewhere s.accounts a uuid) ≡ true
lost_to s a uuid d h = and_both (not (is_plain d.latest)) (is_elsewhere s.accounts a uuid) (deleted_to d.latest h.0) (elsewhere_to s a uuid h.1)

pub drop_from : (s : Ideal) (device uuid : Bytes) → may_drop s.accounts (account_of s device) (draft_at s device uuid) uuid ≡ true → MayDrop s device uuid
drop_from s device uuid h =
    let at = draft_found s device uuid (λ a d. may_drop s.accounts a d uuid) (λ _. refl) (λ _. refl) h in
    let lost : Bool = not (is_plain at.draft.latest) && is_elsewhere s.accounts at.account uuid in
    let both = and_parts (is_none at.draft.base) (is_none at.draft.posted || lost) at.passes in
    record {
      account = at.account;
      draft = at.draft;
      is = at.is;
      new = none_is at.draft.base both.0;
      unsent = either_from (is_none at.draft.posted) lost (at.draft.posted ≡ None) (IsLost s at.account uuid at.draft) (none_is at.draft.posted)
          (lost_from s at.account uuid at.draft) both.1;
    }

pub drop_to : (s : Ideal) (device uuid : Bytes) → MayDrop s device uuid → may_drop s.accounts (account_of s device) (draft_at s device uuid) uuid ≡ true
drop_to s device uuid h =
    let lost : Bool = not (is_plain h.draft.latest) && is_elsewhere s.accounts h.account uuid in
    draft_passes s device uuid (λ a d. may_drop s.accounts a d uuid) h.account h.draft h.is
    (and_both (is_none h.draft.base) (is_none h.draft.posted || lost) (is_nothing h.draft.base h.new)
    (either_to (is_none h.draft.posted) lost (h.draft.posted ≡ None) (IsLost s h.account uuid h.draft) (is_nothing h.draft.posted)
    (lost_to s h.account uuid h.draft) h.unsent))

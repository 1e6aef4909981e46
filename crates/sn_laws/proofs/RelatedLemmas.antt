-- The tests of the code are the relation.
use Rattle.std.proofs.Common.{◌≡◌, ◌≢◌, ◌⊎◌, ◌<◌, ◌≤◌, ℕ, List, [], ◌∷◌, length, Option, Some, None, Bool, true, false, refl, sym, ap, ◌∙◌, subst, inl, inr, ⊎_elim}
use Rattle.std.specs.Prelude.{IsTrue, ◌&&◌, ◌||◌, ◌==◌, ◌↔◌, not, is_some, nat_lt, nat_le, if◌then◌else◌}
use Rattle.std.specs.List.{list_all, list_any}
use Rattle.std.specs.Str.{bytes_eq}
use Rattle.std.proofs.lemmas.Bool.{and_parts}
use Rattle.sn_items.specs.Objects.{is_object}
use Rattle.sn_laws.specs.declared.ideal.Content.{Content}
use Rattle.sn_laws.specs.declared.ideal.Content.TheVariants.{Plain, Deleted}
use Rattle.sn_laws.specs.declared.ideal.Version.{Version}
use Rattle.sn_laws.specs.declared.ideal.Account.{Account}
use Rattle.sn_laws.specs.declared.ideal.Posted.{Posted}
use Rattle.sn_laws.specs.declared.ideal.Draft.{Draft}
use Rattle.sn_laws.specs.declared.ideal.Device.{Device}
use Rattle.sn_laws.specs.declared.ideal.Ideal.{Ideal}
use Rattle.sn_laws.specs.declared.moves.Move.{Move}
use Rattle.sn_laws.specs.declared.moves.Move.TheVariants.{Register, Join, Edit, Drop, Post, Unpost, Accept, Rewrap, Settle, SettlePosted, Fork, Rename, GiveWay, Change, Retire}
use Rattle.sn_laws.specs.Each.{Each}
use Rattle.sn_laws.specs.Lookups.{Bytes, account_named, account_of, device_named, draft_at, has_item, is_account, is_of, last_of}
use Rattle.sn_laws.specs.Moves.{after, allows, is_as, is_last, is_live, is_live_at, is_new_stamp, is_on_last, is_plain, is_said, is_sent_under, is_unsent, is_writable, may_accept, may_delete, may_edit, may_join, may_post, may_settle, may_stand, may_write, same_base, sent_content}
use Rattle.sn_string.specs.Bounds.{longest_content}
use Rattle.sn_laws.specs.Relation.{HasLive, HeldBefore, IsAllowed, IsLiveAt, IsOnLast, IsPlain, NamesSet, MayAccept, MayDelete, MayEdit, MayJoin, MayPost, MayRegister, MaySettle, MayWrite, Moves}
use Rattle.sn_laws.specs.Runs.{step_of}
use Rattle.sn_laws.proofs.EachLemmas.{and_both, at_most, below, each_from, each_to, is_at_most, is_below, none_from, none_to, not_false, not_true, number_same, one_from, one_to, or_cases, or_left, or_right, same_number, same_text, text_same}
pub use Rattle.sn_laws.proofs.RelatedParts.{one_there}
use Rattle.sn_laws.proofs.RelatedParts.{all_four, all_three, content_from, content_to, draft_found, draft_passes, four, is_nothing, live_from, live_to, missing, new_from, new_to, none_is, number_from, number_to, plain_from, plain_to, some_found, some_from, some_passes, some_to, three}
use Rattle.sn_laws.proofs.RelatedMeetings.{drop_from, drop_to, fork_from, fork_to, give_way_from, give_way_to, rename_from, rename_to, settle_posted_from, settle_posted_to}
use Rattle.sn_laws.proofs.RelatedRekeying.{change_from, change_to, retire_from, retire_to, rewrap_from, rewrap_to, unpost_from, unpost_to}

-- Register

register_from : (s : Ideal) (identifier : Bytes) → not (list_any (is_account identifier) s.accounts) ≡ true → MayRegister s identifier
register_from s identifier h =
    none_from (is_account identifier) (λ (a : Account). a.identifier ≡ identifier) (λ a e. text_same a.identifier identifier e) s.accounts
    (not_false (list_any (is_account identifier) s.accounts) h)

register_to : (s : Ideal) (identifier : Bytes) → MayRegister s identifier → not (list_any (is_account identifier) s.accounts) ≡ true
register_to s identifier h =
    not_true (list_any (is_account identifier) s.accounts)
    (none_to (is_account identifier) (λ (a : Account). a.identifier ≡ identifier) (λ a e. same_text a.identifier identifier e) s.accounts h)

-- Join

held_from : (a : Account) (d : Device) (number : ℕ)
    → (bytes_eq d.account a.identifier && (number == length a.sets) && nat_le (length d.held) 1 && list_all (λ m. nat_lt m number) d.held) ≡ true
    → HeldBefore d a.identifier number × (number ≡ length a.sets)
held_from a d number h =
    let parts = four (bytes_eq d.account a.identifier) (number == length a.sets) (nat_le (length d.held) 1) (list_all (λ m. nat_lt m number) d.held) h in (
      record {
        same = same_text d.account a.identifier parts.0;
        one = at_most (length d.held) 1 parts.2;
        below = each_from (λ m. nat_lt m number) (λ m. m < number) (λ m e. below m number e) d.held parts.3;
      },
      same_number number (length a.sets) parts.1,
    )

held_to : (a : Account) (d : Device) (number : ℕ) → HeldBefore d a.identifier number → number ≡ length a.sets
    → (bytes_eq d.account a.identifier && (number == length a.sets) && nat_le (length d.held) 1 && list_all (λ m. nat_lt m number) d.held) ≡ true
held_to a d number h last =
    all_four (bytes_eq d.account a.identifier) (number == length a.sets) (nat_le (length d.held) 1) (list_all (λ m. nat_lt m number) d.held)
    (text_same d.account a.identifier h.same) (number_same number (length a.sets) last) (is_at_most (length d.held) 1 h.one)
    (each_to (λ m. nat_lt m number) (λ m. m < number) (λ m e. is_below m number e) d.held h.below)

join_from : (s : Ideal) (device identifier : Bytes) (number : ℕ) (a : Option Account) (d : Option Device)
    → account_named s identifier ≡ a → device_named s device ≡ d → may_join a d number ≡ true → MayJoin s device identifier number
join_from s device identifier number None d e k h = absurd (cc)
join_from s device identifier number (Some a) None e k h =
    record { account = a; named = e; last = same_number number (length a.sets) h; before = λ d f. absurd (missing d (device_named s device) k f) }
join_from s device identifier number (Some a) (Some d) e k h =
    let both = held_from a d number h in
    record {
      account = a;
      named = e;
      last = both.1;
      before = λ other f. subst (λ x. HeldBefore x a.identifier number) (one_there d other (device_named s device) k f) both.0;
    }

join_to : (s : Ideal) (device identifier : Bytes) (number : ℕ) (a : Option Account) (d : Option Device)
    → account_named s identifier ≡ a → device_named s device ≡ d → MayJoin s device identifier number → may_join a d number ≡ true
join_to s device identifier number None d e k h = absurd (missing h.account (account_named s identifier) e h.named)
join_to s device identifier number (Some a) None e k h =
    let same : h.account ≡ a = one_there h.account a (account_named s identifier) h.named e in
    number_same number (length a.sets) (h.last ∙ ap (λ (x : Account). length x.sets) same)
join_to s device identifier number (Some a) (Some d) e k h =
    let same : h.account ≡ a = one_there h.account a (account_named s identifier) h.named e in
    held_to a d number (subst (λ (x : Account). HeldBefore d x.identifier number) same (h.before d k))
    (h.last ∙ ap (λ (x : Account). length x.sets) same)

-- Edit

live_at_from : (uuid kind : Bytes) (stamp : ℕ) (v : Version) → is_live_at uuid kind stamp v ≡ true → IsLiveAt uuid kind stamp v
live_at_from uuid kind stamp v h =
    let parts = four (bytes_eq v.uuid uuid) (bytes_eq v.kind kind) (v.stamp == stamp) (is_live v.body) h in
    record {
      item = same_text v.uuid uuid parts.0;
      kind_is = same_text v.kind kind parts.1;
      stamp_is = same_number v.stamp stamp parts.2;
      live = live_from v.body parts.3;
    }

live_at_to : (uuid kind : Bytes) (stamp : ℕ) (v : Version) → IsLiveAt uuid kind stamp v → is_live_at uuid kind stamp v ≡ true
live_at_to uuid kind stamp v h =
    all_four (bytes_eq v.uuid uuid) (bytes_eq v.kind kind) (v.stamp == stamp) (is_live v.body) (text_same v.uuid uuid h.item)
    (text_same v.kind kind h.kind_is) (number_same v.stamp stamp h.stamp_is) (live_to v.body h.live)

stand_from : (a : Account) (uuid kind : Bytes) (base : Option ℕ) → may_stand a uuid kind base ≡ true
    → (stamp : ℕ) → base ≡ Some stamp → HasLive a uuid kind stamp
stand_from a uuid kind None h stamp e = absurd (cc)
stand_from a uuid kind (Some n) h stamp e =
    let same : n ≡ stamp = cc in
    subst (HasLive a uuid kind) same (one_from (is_live_at uuid kind n) (IsLiveAt uuid kind n) (live_at_from uuid kind n) a.versions h)

stand_to : (a : Account) (uuid kind : Bytes) (base : Option ℕ) → ((stamp : ℕ) → base ≡ Some stamp → HasLive a uuid kind stamp)
    → may_stand a uuid kind base ≡ true
stand_to a uuid kind None h = refl
stand_to a uuid kind (Some n) h = one_to (is_live_at uuid kind n) (IsLiveAt uuid kind n) (live_at_to uuid kind n) a.versions (h n refl)

base_from : (base other : Option ℕ) → same_base base other ≡ true → base ≡ other
base_from None None h = refl
base_from None (Some n) h = absurd (cc)
base_from (Some m) None h = absurd (cc)
base_from (Some m) (Some n) h = ap Some (sym (same_number n m h))

base_to : (base other : Option ℕ) → base ≡ other → same_base base other ≡ true
base_to None None h = refl
base_to None (Some n) h = absurd (cc)
base_to (Some m) None h = absurd (cc)
base_to (Some m) (Some n) h = let same : m ≡ n = cc in number_same n m (sym same)

writable_from : (text : Bytes) → is_writable text ≡ true → (length text ≤ longest_content) × IsTrue (is_object text)
writable_from text h =
    let both = and_parts (nat_le (length text) longest_content) (is_object text) h in
    (at_most (length text) longest_content both.0, both.1)

writable_to : (text : Bytes) → length text ≤ longest_content → IsTrue (is_object text) → is_writable text ≡ true
writable_to text short object = and_both (nat_le (length text) longest_content) (is_object text) (is_at_most (length text) longest_content short) object

write_from : (s : Ideal) (device uuid kind : Bytes) (base : Option ℕ) (text : Bytes) (a : Account) (d : Option Draft)
    → account_of s device ≡ Some a → draft_at s device uuid ≡ d → may_write a d uuid kind base text ≡ true → MayWrite s device uuid kind base text
write_from s device uuid kind base text a None e k h =
    let both = and_parts (may_stand a uuid kind base) (is_writable text) h in
    let fits = writable_from text both.1 in
    record {
      account = a;
      has = e;
      short = fits.0;
      object = fits.1;
      new = λ _. stand_from a uuid kind base both.0;
      there = λ d f. absurd (missing d (draft_at s device uuid) k f);
    }
write_from s device uuid kind base text a (Some d) e k h =
    let parts = three (is_as d kind base) (is_plain d.latest) (is_writable text) h in
    let said = and_parts (bytes_eq d.kind kind) (same_base d.base base) parts.0 in
    let fits = writable_from text parts.2 in
    record {
      account = a;
      has = e;
      short = fits.0;
      object = fits.1;
      new = λ f. absurd (missing d (draft_at s device uuid) f k);
      there = λ other f. subst (λ (x : Draft). (x.kind ≡ kind) × (x.base ≡ base) × IsPlain x.latest) (one_there d other (draft_at s device uuid) k f)
          (same_text d.kind kind said.0, base_from d.base base said.1, plain_from d.latest parts.1);
    }

write_to : (s : Ideal) (device uuid kind : Bytes) (base : Option ℕ) (text : Bytes) (a : Account) (d : Option Draft)
    → account_of s device ≡ Some a → draft_at s device uuid ≡ d → MayWrite s device uuid kind base text → may_write a d uuid kind base text ≡ true
write_to s device uuid kind base text a None e k h =
    let same : h.account ≡ a = one_there h.account a (account_of s device) h.has e in
    and_both (may_stand a uuid kind base) (is_writable text)
    (stand_to a uuid kind base (λ stamp f. subst (λ x. HasLive x uuid kind stamp) same (h.new k stamp f))) (writable_to text h.short h.object)
write_to s device uuid kind base text a (Some d) e k h =
    let parts = h.there d k in
    all_three (is_as d kind base) (is_plain d.latest) (is_writable text)
    (and_both (bytes_eq d.kind kind) (same_base d.base base) (text_same d.kind kind parts.0) (base_to d.base base parts.1))
    (plain_to d.latest parts.2) (writable_to text h.short h.object)

based : (base : Option ℕ) → is_some base ≡ true → (stamp : ℕ) × (base ≡ Some stamp)
based None h = absurd (cc)
based (Some n) h = (n, refl)

delete_from : (s : Ideal) (device uuid kind : Bytes) (base : Option ℕ) (a : Account) (d : Option Draft)
    → account_of s device ≡ Some a → draft_at s device uuid ≡ d → may_delete a d uuid kind base ≡ true → MayDelete s device uuid kind base
delete_from s device uuid kind base a None e k h =
    let both = and_parts (is_some base) (may_stand a uuid kind base) h in
    let on = based base both.0 in
    record {
      account = a;
      has = e;
      new = λ _. (on.0, on.1, stand_from a uuid kind base both.1 on.0 on.1);
      there = λ d f. absurd (missing d (draft_at s device uuid) k f);
    }
delete_from s device uuid kind base a (Some d) e k h =
    let both = and_parts (is_as d kind base) (is_some d.base || is_some d.posted) h in
    let said = and_parts (bytes_eq d.kind kind) (same_base d.base base) both.0 in
    record {
      account = a;
      has = e;
      new = λ f. absurd (missing d (draft_at s device uuid) f k);
      there = λ other f.
          subst (λ (x : Draft). (x.kind ≡ kind) × (x.base ≡ base) × ((x.base ≢ None) ⊎ (x.posted ≢ None))) (one_there d other (draft_at s device uuid) k f) (
            same_text d.kind kind said.0,
            base_from d.base base said.1,
            ⊎_elim (λ g. inl (some_from d.base g)) (λ g. inr (some_from d.posted g)) (or_cases (is_some d.base) (is_some d.posted) both.1),
          );
    }

delete_to : (s : Ideal) (device uuid kind : Bytes) (base : Option ℕ) (a : Account) (d : Option Draft)
    → account_of s device ≡ Some a → draft_at s device uuid ≡ d → MayDelete s device uuid kind base → may_delete a d uuid kind base ≡ true
delete_to s device uuid kind base a None e k h =
    let same : h.account ≡ a = one_there h.account a (account_of s device) h.has e in
    let on = h.new k in
    let live : HasLive a uuid kind on.0 = subst (λ x. HasLive x uuid kind on.0) same on.2 in
    subst (λ b. (is_some b && may_stand a uuid kind b) ≡ true) (sym on.1)
    (one_to (is_live_at uuid kind on.0) (IsLiveAt uuid kind on.0) (live_at_to uuid kind on.0) a.versions live)
delete_to s device uuid kind base a (Some d) e k h =
    let parts = h.there d k in
    and_both (is_as d kind base) (is_some d.base || is_some d.posted)
    (and_both (bytes_eq d.kind kind) (same_base d.base base) (text_same d.kind kind parts.0) (base_to d.base base parts.1))
    (⊎_elim (λ g. or_left (is_some d.base) (is_some d.posted) (some_to d.base g)) (λ g. or_right (is_some d.base) (is_some d.posted) (some_to d.posted g)) parts.2)

edit_from : (s : Ideal) (device uuid kind : Bytes) (base : Option ℕ) (latest : Content) (a : Option Account)
    → account_of s device ≡ a → may_edit a (draft_at s device uuid) uuid kind base latest ≡ true → MayEdit s device uuid kind base latest
edit_from s device uuid kind base (Plain text) None e h = absurd (cc)
edit_from s device uuid kind base Deleted None e h = absurd (cc)
edit_from s device uuid kind base (Plain text) (Some a) e h = write_from s device uuid kind base text a (draft_at s device uuid) e refl h
edit_from s device uuid kind base Deleted (Some a) e h = delete_from s device uuid kind base a (draft_at s device uuid) e refl h

edit_to : (s : Ideal) (device uuid kind : Bytes) (base : Option ℕ) (latest : Content) (a : Option Account)
    → account_of s device ≡ a → MayEdit s device uuid kind base latest → may_edit a (draft_at s device uuid) uuid kind base latest ≡ true
edit_to s device uuid kind base (Plain text) None e h = absurd (missing h.account (account_of s device) e h.has)
edit_to s device uuid kind base Deleted None e h = absurd (missing h.account (account_of s device) e h.has)
edit_to s device uuid kind base (Plain text) (Some a) e h = write_to s device uuid kind base text a (draft_at s device uuid) e refl h
edit_to s device uuid kind base Deleted (Some a) e h = delete_to s device uuid kind base a (draft_at s device uuid) e refl h

-- Post

unsent_from : (posted : Option Posted) → is_unsent posted ≡ true → (p : Posted) → posted ≡ Some p → p.set ≡ None
unsent_from None h p e = absurd (cc)
unsent_from (Some q) h p e =
    let same : q ≡ p = cc in
    subst (λ (x : Posted). x.set ≡ None) same (none_is q.set h)

unsent_to : (posted : Option Posted) → ((p : Posted) → posted ≡ Some p → p.set ≡ None) → is_unsent posted ≡ true
unsent_to None h = refl
unsent_to (Some q) h = is_nothing q.set (h q refl)

post_from : (s : Ideal) (device uuid : Bytes) → may_post (account_of s device) (draft_at s device uuid) ≡ true → MayPost s device uuid
post_from s device uuid h =
    let at = draft_found s device uuid may_post (λ _. refl) (λ _. refl) h in
    record { account = at.account; draft = at.draft; is = at.is; unsent = unsent_from at.draft.posted at.passes }

post_to : (s : Ideal) (device uuid : Bytes) → MayPost s device uuid → may_post (account_of s device) (draft_at s device uuid) ≡ true
post_to s device uuid h = draft_passes s device uuid may_post h.account h.draft h.is (unsent_to h.draft.posted h.unsent)

-- Accept

sent_from : (n : ℕ) (posted : Option Posted) → is_sent_under n posted ≡ true → (p : Posted) × (posted ≡ Some p) × (p.set ≡ Some n)
sent_from n None h = absurd (cc)
sent_from n (Some p) h = (p, refl, number_from n p.set h)

said_from : (n : ℕ) (c : Content) (under : Option ℕ) → is_said n c under ≡ true → NamesSet n c under
said_from n (Plain text) under h = number_from n under h
said_from n Deleted under h = none_is under h

said_to : (n : ℕ) (c : Content) (under : Option ℕ) → NamesSet n c under → is_said n c under ≡ true
said_to n (Plain text) under h = number_to n under h
said_to n Deleted under h = is_nothing under h

free_from : (s : Ideal) (uuid : Bytes) → not (list_any (has_item uuid) s.accounts) ≡ true
    → Each (λ (b : Account). Each (λ (v : Version). v.uuid ≢ uuid) b.versions) s.accounts
free_from s uuid h = each_have s.accounts (not_false (list_any (has_item uuid) s.accounts) h)
  where
    parts : (x y : Bool) → (x || y) ≡ false → (x ≡ false) × (y ≡ false)
    parts true y e = absurd (cc)
    parts false y e = (refl, e)

    each_have : (bs : List Account) → list_any (has_item uuid) bs ≡ false → Each (λ (b : Account). Each (λ (v : Version). v.uuid ≢ uuid) b.versions) bs
    each_have [] e = tt
    each_have (b ∷ bs) e =
        let both = parts (has_item uuid b) (list_any (has_item uuid) bs) e in
        (none_from (is_of uuid) (λ (v : Version). v.uuid ≡ uuid) (λ v k. text_same v.uuid uuid k) b.versions both.0, each_have bs both.1)

free_to : (s : Ideal) (uuid : Bytes) → Each (λ (b : Account). Each (λ (v : Version). v.uuid ≢ uuid) b.versions) s.accounts
    → not (list_any (has_item uuid) s.accounts) ≡ true
free_to s uuid h = not_true (list_any (has_item uuid) s.accounts) (none_have s.accounts h)
  where
    none : (x y : Bool) → x ≡ false → y ≡ false → (x || y) ≡ false
    none true y e k = absurd (cc)
    none false y e k = k

    none_have : (bs : List Account) → Each (λ (b : Account). Each (λ (v : Version). v.uuid ≢ uuid) b.versions) bs → list_any (has_item uuid) bs ≡ false
    none_have [] e = refl
    none_have (b ∷ bs) e =
        none (has_item uuid b) (list_any (has_item uuid) bs)
        (none_to (is_of uuid) (λ (v : Version). v.uuid ≡ uuid) (λ v k. same_text v.uuid uuid k) b.versions e.0) (none_have bs e.1)

on_last_from : (s : Ideal) (a : Account) (uuid : Bytes) (base : Option ℕ) (last : Option Version) → last_of uuid a.versions ≡ last
    → is_on_last s.accounts uuid base last ≡ true → IsOnLast s a uuid base
on_last_from s a uuid None last e h = free_from s uuid h
on_last_from s a uuid (Some stamp) None e h = absurd (cc)
on_last_from s a uuid (Some stamp) (Some v) e h = (v, e, same_number v.stamp stamp h)

on_last_to : (s : Ideal) (a : Account) (uuid : Bytes) (base : Option ℕ) (last : Option Version) → last_of uuid a.versions ≡ last
    → IsOnLast s a uuid base → is_on_last s.accounts uuid base last ≡ true
on_last_to s a uuid None last e h = free_to s uuid h
on_last_to s a uuid (Some stamp) None e h = absurd (missing h.0 (last_of uuid a.versions) e h.1)
on_last_to s a uuid (Some stamp) (Some v) e h =
    let same : h.0 ≡ v = one_there h.0 v (last_of uuid a.versions) h.1 e in
    number_same v.stamp stamp (subst (λ (x : Version). x.stamp ≡ stamp) same h.2)

accept_from : (s : Ideal) (device uuid : Bytes) (stamp : ℕ) (under : Option ℕ)
    → may_accept s.accounts (account_of s device) (draft_at s device uuid) uuid stamp under ≡ true → MayAccept s device uuid stamp under
accept_from s device uuid stamp under h =
    let at = draft_found s device uuid (λ a d. may_accept s.accounts a d uuid stamp under) (λ _. refl) (λ _. refl) h in
    let a : Account = at.account in
    let d : Draft = at.draft in
    let parts = four (is_sent_under (length a.sets) d.posted) (is_said (length a.sets) (sent_content d.latest d.posted) under)
    (is_on_last s.accounts uuid d.base (last_of uuid a.versions)) (is_new_stamp s.accounts stamp) at.passes in
    let sent = sent_from (length a.sets) d.posted parts.0 in
    let said : is_said (length a.sets) sent.0.content under ≡ true =
    subst (λ p. is_said (length a.sets) (sent_content d.latest p) under ≡ true) sent.1 parts.1 in
    record {
      account = a;
      draft = d;
      is = at.is;
      posted = sent.0;
      sent = sent.1;
      last_set = sent.2;
      said = said_from (length a.sets) sent.0.content under said;
      on_last = on_last_from s a uuid d.base (last_of uuid a.versions) refl parts.2;
      new = new_from s stamp parts.3;
    }

accept_to : (s : Ideal) (device uuid : Bytes) (stamp : ℕ) (under : Option ℕ) → MayAccept s device uuid stamp under
    → may_accept s.accounts (account_of s device) (draft_at s device uuid) uuid stamp under ≡ true
accept_to s device uuid stamp under h =
    let a : Account = h.account in
    let d : Draft = h.draft in
    draft_passes s device uuid (λ x y. may_accept s.accounts x y uuid stamp under) a d h.is
    (all_four (is_sent_under (length a.sets) d.posted) (is_said (length a.sets) (sent_content d.latest d.posted) under)
    (is_on_last s.accounts uuid d.base (last_of uuid a.versions)) (is_new_stamp s.accounts stamp)
    (some_passes h.posted d.posted (is_sent_under (length a.sets)) h.sent (number_to (length a.sets) h.posted.set h.last_set))
    (some_passes h.posted d.posted (λ x. is_said (length a.sets) (sent_content d.latest x) under) h.sent
    (said_to (length a.sets) h.posted.content under h.said))
    (on_last_to s a uuid d.base (last_of uuid a.versions) refl h.on_last) (new_to s stamp h.new))

-- Settle

settle_from : (s : Ideal) (device uuid : Bytes) → may_settle (account_of s device) (draft_at s device uuid) uuid ≡ true → MaySettle s device uuid
settle_from s device uuid h =
    let at = draft_found s device uuid (λ a d. may_settle a d uuid) (λ _. refl) (λ _. refl) h in
    let last = some_found (last_of uuid at.account.versions) (is_last at.draft) refl at.passes in
    record {
      account = at.account;
      draft = at.draft;
      is = at.is;
      version = last.0;
      last = last.1;
      content = content_from at.draft.kind at.draft.latest last.0.kind last.0.body last.2;
    }

settle_to : (s : Ideal) (device uuid : Bytes) → MaySettle s device uuid → may_settle (account_of s device) (draft_at s device uuid) uuid ≡ true
settle_to s device uuid h =
    draft_passes s device uuid (λ a d. may_settle a d uuid) h.account h.draft h.is
    (some_passes h.version (last_of uuid h.account.versions) (is_last h.draft) h.last
    (content_to h.draft.kind h.draft.latest h.version.kind h.version.body h.content))

-- each move

pub allowed_from : (s : Ideal) (m : Move) → IsTrue (allows s m) → IsAllowed s m
allowed_from s (Register identifier set) h = register_from s identifier h
allowed_from s (Join device identifier number) h =
    join_from s device identifier number (account_named s identifier) (device_named s device) refl refl h
allowed_from s (Edit device uuid kind base latest) h = edit_from s device uuid kind base latest (account_of s device) refl h
allowed_from s (Drop device uuid) h = drop_from s device uuid h
allowed_from s (Post device uuid) h = post_from s device uuid h
allowed_from s (Unpost device uuid) h = unpost_from s device uuid h
allowed_from s (Accept device uuid stamp under) h = accept_from s device uuid stamp under h
allowed_from s (Rewrap uuid stamp under) h = rewrap_from s uuid stamp under h
allowed_from s (Settle device uuid) h = settle_from s device uuid h
allowed_from s (SettlePosted device uuid stamp) h = settle_posted_from s device uuid stamp h
allowed_from s (Fork device uuid other) h = fork_from s device uuid other h
allowed_from s (Rename device uuid other) h = rename_from s device uuid other h
allowed_from s (GiveWay device uuid) h = give_way_from s device uuid h
allowed_from s (Change identifier number set) h = change_from s identifier number set h
allowed_from s (Retire device number) h = retire_from s device number h

pub allowed_to : (s : Ideal) (m : Move) → IsAllowed s m → IsTrue (allows s m)
allowed_to s (Register identifier set) h = register_to s identifier h
allowed_to s (Join device identifier number) h = join_to s device identifier number (account_named s identifier) (device_named s device) refl refl h
allowed_to s (Edit device uuid kind base latest) h = edit_to s device uuid kind base latest (account_of s device) refl h
allowed_to s (Drop device uuid) h = drop_to s device uuid h
allowed_to s (Post device uuid) h = post_to s device uuid h
allowed_to s (Unpost device uuid) h = unpost_to s device uuid h
allowed_to s (Accept device uuid stamp under) h = accept_to s device uuid stamp under h
allowed_to s (Rewrap uuid stamp under) h = rewrap_to s uuid stamp under h
allowed_to s (Settle device uuid) h = settle_to s device uuid h
allowed_to s (SettlePosted device uuid stamp) h = settle_posted_to s device uuid stamp h
allowed_to s (Fork device uuid other) h = fork_to s device uuid other h
allowed_to s (Rename device uuid other) h = rename_to s device uuid other h
allowed_to s (GiveWay device uuid) h = give_way_to s device uuid h
allowed_to s (Change identifier number set) h = change_to s identifier number set h
allowed_to s (Retire device number) h = retire_to s device number h

pub steps : (s next : Ideal) (m : Move) → (step_of s m ≡ Some next) ↔ Moves s m next
steps s next m = (there, back)
  where
    from : (b : Bool) → allows s m ≡ b → (if b then Some (after s m) else None) ≡ Some next → Moves s m next
    from true e h = let same : next ≡ after s m = cc in record { allowed = allowed_from s m e; effect = same }
    from false e h = absurd (cc)

    there : step_of s m ≡ Some next → Moves s m next
    there h = from (allows s m) refl h

    to : (b : Bool) → b ≡ true → next ≡ after s m → (if b then Some (after s m) else None) ≡ Some next
    to true e h = ap Some (sym h)
    to false e h = absurd (cc)

    back : Moves s m next → step_of s m ≡ Some next
    back h = to (allows s m) (allowed_to s m h.allowed) h.effect

pub one_next : (s a b : Ideal) (m : Move) → Moves s m a → Moves s m b → a ≡ b
one_next s a b m first second = first.effect ∙ sym second.effect

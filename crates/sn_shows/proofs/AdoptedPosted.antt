-- What was sent of a draft, under whatever set's number: rows show the same of it.
use Rattle.std.proofs.Common.{◌≡◌, ◌⊎◌, ℕ, List, [], ◌∷◌, Option, Some, None, Bool, true, false, refl, sym, ap, ◌∙◌, subst, inl, inr}
use Rattle.std.specs.Prelude.{cond, if◌then◌else◌, find}
use Rattle.sn_laws.proofs.Facts.{found_passes, one_there}
use Rattle.sn_laws.specs.Lookups.{Bytes, device_named, draft_at, greatest, held_by, is_draft}
use Rattle.sn_laws.specs.Moves.{changed_where, posted_under, sent_content, unposted, without_number}
use Rattle.sn_laws.specs.declared.ideal.Account.{Account}
use Rattle.sn_laws.specs.declared.ideal.Device.{Device}
use Rattle.sn_laws.specs.declared.ideal.Draft.{Draft}
use Rattle.sn_laws.specs.declared.ideal.Ideal.{Ideal}
use Rattle.sn_laws.specs.declared.ideal.Posted.{Posted}
use Rattle.sn_rows.specs.Table.{Rows}
use Rattle.sn_rows.specs.declared.body.RowBody.{RowBody}
use Rattle.sn_rows.specs.declared.device_rows.LocalItem.{LocalItem}
use Rattle.sn_string.specs.declared.params.KeySet.{KeySet}
use Rattle.sn_shows.proofs.DeviceStates.{draft_is}
use Rattle.sn_shows.specs.Adopting.{RepostedShows, UnpostedShows}
use Rattle.sn_shows.specs.Devices.{ShowsDevice, ShowsDeviceAs, ShowsDraft, ShowsDrafted, ShowsHolder, ShowsLocal, ShowsPosted}

-- ---- what is found among elements of which some are changed

-- what was found, or the one found, which is changed
abbrev IsFound : {A : Type 0} → (A → Bool) → (A → A) → Option A → Option A → Type 0
IsFound {A = A} p f was now = (now ≡ was) ⊎ ((x : A) × (was ≡ Some x) × (p x ≡ true) × (now ≡ Some (f x)))

find_kept : {A : Type 0} (q p : A → Bool) (f : A → A) → ((x : A) → q (f x) ≡ q x) → (xs : List A)
    → IsFound p f (find q xs) (find q (changed_where p f xs))
find_kept q p f same [] = inl refl
find_kept {A = A} q p f same (x ∷ xs) = at (find_kept q p f same xs) (p x) refl (q x) refl
  where
    at : IsFound p f (find q xs) (find q (changed_where p f xs)) → (b : Bool) → p x ≡ b → (c : Bool) → q x ≡ c
        → IsFound p f (cond c (Some x) (find q xs))
        (cond (q (if b then f x else x)) (Some (if b then f x else x)) (find q (changed_where p f xs)))
    at rest true e true k = inr (x, refl, e, rw (same x ∙ k) refl)
    at (inl h) true e false k = inl (rw (same x ∙ k) h)
    at (inr h) true e false k = inr (h.0, h.1, h.2, rw (same x ∙ k) h.3)
    at rest false e true k = inl (rw k refl)
    at (inl h) false e false k = inl (rw k h)
    at (inr h) false e false k = inr (h.0, h.1, h.2, rw k h.3)

-- ---- rows that show drafts show them so changed

-- a state of the same accounts and devices, with drafts so changed that rows show the same of them
module _ (rows : Rows) (s : Ideal) (name uuid : Bytes) (f : Draft → Draft) (keeps : (other : Bytes) (x : Draft) → is_draft name other (f x) ≡ is_draft name other x)
    (shown : (sets : List KeySet) (number : ℕ) (item : LocalItem) (x : Draft) → draft_at s name uuid ≡ Some x → ShowsDraft sets number item x
    → ShowsDraft sets number item (f x)) where
  abbrev next : Ideal
  next = record s { drafts = changed_where (is_draft name uuid) f s.drafts }

  kept : (other : Bytes) → IsFound (is_draft name uuid) f (draft_at s name other) (draft_at next name other)
  kept other = find_kept (is_draft name other) (is_draft name uuid) f (keeps other) s.drafts

  -- a changed one is that of the uuid
  own : (other : Bytes) (x : Draft) → draft_at s name other ≡ Some x → is_draft name uuid x ≡ true → draft_at s name uuid ≡ Some x
  own other x e passes =
      let here = draft_is name uuid x passes in
      let there = draft_is name other x (found_passes (is_draft name other) s.drafts x e).0 in
      let same : uuid ≡ other = sym here.1 ∙ there.1 in
      ap (draft_at s name) same ∙ e

  drafted : (sets : List KeySet) (number : ℕ) (item : LocalItem) (was now : Option Draft) → draft_at s name item.uuid ≡ was
      → IsFound (is_draft name uuid) f was now → ShowsDrafted sets number item was → ShowsDrafted sets number item now
  drafted sets number item was now e (inl same) h = subst (λ (o : Option Draft). ShowsDrafted sets number item o) (sym same) h
  drafted sets number item was now e (inr k) h =
      let before : ShowsDraft sets number item k.0 = subst (λ (o : Option Draft). ShowsDrafted sets number item o) k.1 h in
      subst (λ (o : Option Draft). ShowsDrafted sets number item o) (sym k.3)
      (shown sets number item k.0 (own item.uuid k.0 (e ∙ k.1) k.2) before)

  -- a draft afterwards was one before
  there_before : (was now : Option Draft) (x : Draft) → IsFound (is_draft name uuid) f was now → now ≡ Some x → (y : Draft) × (was ≡ Some y)
  there_before was now x (inl same) e = (x, sym same ∙ e)
  there_before was now x (inr k) e = (k.0, k.1)

  none_before : (was now : Option Draft) → IsFound (is_draft name uuid) f was now → was ≡ None → now ≡ None
  none_before was now (inl same) e = same ∙ e
  none_before was now (inr k) e = let found : was ≡ Some k.0 = k.1 in absurd (cc)

  local_so : (number : ℕ) (a : Account) (item : LocalItem) → ShowsLocal s name number a item → ShowsLocal next name number a item
  local_so number a item h = record {
    draft = drafted a.sets number item (draft_at s name item.uuid) (draft_at next name item.uuid) refl (kept item.uuid) h.draft;
    base = h.base;
  }

  holder_so : (d : Device) (a : Account) → ShowsHolder rows s name d a → ShowsHolder rows next name d a
  holder_so d a h = record {
    owner = h.owner;
    present = h.present;
    older = h.older;
    locals = λ local item stands. local_so (greatest 0 d.held) a item (h.locals local item stands);
    once = h.once;
    drafts = λ other draft e. (let was = there_before (draft_at s name other) (draft_at next name other) draft (kept other) e in h.drafts other was.0 was.1);
    no_other = h.no_other;
  }

  shows_so : ShowsDevice rows s name → ShowsDevice rows next name
  shows_so h = at (device_named s name) h
    where
      at : (found : Option Device) → ShowsDeviceAs rows s name found → ShowsDeviceAs rows next name found
      at None k = record { none = k.none; no_draft = λ other. none_before (draft_at s name other) (draft_at next name other) (kept other) (k.no_draft other) }
      at (Some d) (a, named, holder) = (a, named, holder_so d a holder)

-- ---- it loses its number

without_shown : (sets : List KeySet) (number : ℕ) (uuid : Bytes) (found : Option RowBody) (posted : Option Posted) → ShowsPosted sets number uuid found posted
    → ShowsPosted sets number uuid found (without_number posted)
without_shown sets number uuid None None h = h
without_shown sets number uuid None (Some p) h = absurd h
without_shown sets number uuid (Some b) None h = absurd h
without_shown sets number uuid (Some b) (Some p) h = h

unposted_draft : (sets : List KeySet) (number : ℕ) (item : LocalItem) (x : Draft) → ShowsDraft sets number item x → ShowsDraft sets number item (unposted x)
unposted_draft sets number item x h = record {
  kind = h.kind;
  base = h.base;
  latest = h.latest;
  latest_is = h.latest_is;
  content = h.content;
  posted = without_shown sets number item.uuid item.posted x.posted h.posted;
}

pub unposted_shows : UnpostedShows
unposted_shows rows s name uuid h =
    shows_so rows s name uuid unposted (λ other x. refl) (λ sets number item x e k. unposted_draft sets number item x k) h

-- ---- and is sent again

again_shown : (sets : List KeySet) (number : ℕ) (uuid : Bytes) (found : Option RowBody) (draft : Draft) (p : Posted) (under : ℕ) → draft.posted ≡ Some p
    → ShowsPosted sets number uuid found draft.posted → ShowsPosted sets number uuid found (posted_under under draft).posted
again_shown sets number uuid found draft p under e h =
    subst
    (λ (o : Option Posted). ShowsPosted sets number uuid found (Some (record { content = sent_content draft.latest o; set = Some under }))) (sym e)
    (by found (subst (λ (o : Option Posted). ShowsPosted sets number uuid found o) e h))
  where
    by : (o : Option RowBody) → ShowsPosted sets number uuid o (Some p)
        → ShowsPosted sets number uuid o (Some (record { content = p.content; set = Some under }))
    by None k = absurd k
    by (Some b) k = k

reposted_draft : (sets : List KeySet) (number under : ℕ) (item : LocalItem) (x : Draft) (p : Posted) → x.posted ≡ Some p → ShowsDraft sets number item x
    → ShowsDraft sets number item (posted_under under x)
reposted_draft sets number under item x p e h = record {
  kind = h.kind;
  base = h.base;
  latest = h.latest;
  latest_is = h.latest_is;
  content = h.content;
  posted = again_shown sets number item.uuid item.posted x p under e h.posted;
}

pub reposted_shows : RepostedShows
reposted_shows rows s name uuid draft p h at sent =
    shows_so rows s name uuid (posted_under (greatest 0 (held_by (device_named s name)))) (λ other x. refl)
    (λ sets number item x e k.
    reposted_draft sets number (greatest 0 (held_by (device_named s name))) item x p
    (ap (λ (y : Draft). y.posted) (one_there x draft (draft_at s name uuid) e at) ∙ sent) k) h

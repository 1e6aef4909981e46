-- What a move of one draft leaves of the others.
use Rattle.std.proofs.Common.{◌≡◌, ◌≢◌, ℕ, List, Option, Some, None, Bool, true, false, refl, sym, ◌∙◌, subst}
use Rattle.std.specs.Str.{bytes_eq}
use Rattle.sn_laws.proofs.Facts.{clash, same_text, text_same}
use Rattle.sn_laws.specs.Lookups.{Bytes, draft_at, is_draft}
use Rattle.sn_laws.specs.Moves.{changed_where}
use Rattle.sn_laws.specs.Relation.{IsOnLast}
use Rattle.sn_laws.specs.declared.ideal.Account.{Account}
use Rattle.sn_laws.specs.declared.ideal.Draft.{Draft}
use Rattle.sn_laws.specs.declared.ideal.Ideal.{Ideal}
use Rattle.sn_rows.specs.Table.{Rows}
use Rattle.sn_shows.specs.Devices.{ShowsDevice}
use Rattle.sn_world.proofs.Settled.{draft_before}
use Rattle.sn_world.proofs.ShowsLemmas.{draft_is, find_changed_without, find_past_changed, not_of_device, not_of_item, shows_alike}
use Rattle.sn_world.specs.Holds.{NumbersOf}

-- the state with one draft changed
abbrev pub moved : Ideal → Bytes → Bytes → (Draft → Draft) → Ideal
moved s name uuid f = record s { drafts = changed_where (is_draft name uuid) f s.drafts }

-- what stands on last versions stays
on_before : (s : Ideal) (drafts : List Draft) (a : Account) (item : Bytes) (base : Option ℕ) → IsOnLast (record s { drafts = drafts }) a item base → IsOnLast s a item base
on_before s drafts a item None on = on
on_before s drafts a item (Some stamp) on = on

-- numbers of what was sent stay where each draft of which something was sent was there
pub numbers_kept : (s : Ideal) (drafts : List Draft)
    → ((other item : Bytes) (e : Draft) → draft_at (record s { drafts = drafts }) other item ≡ Some e → e.posted ≢ None → draft_at s other item ≡ Some e)
    → ((other : Bytes) → NumbersOf s other) → (other : Bytes) → NumbersOf (record s { drafts = drafts }) other
numbers_kept s drafts before h other d a has item draft at p is =
    let its = h other d a (record { device = has.device; account = has.account }) item draft (before other item draft at (λ none. cc)) p is in
    (its.0, its.1, λ last. its.2 (on_before s drafts a draft.uuid draft.base last))

-- a draft that stays its device's, and is then the one of this uuid, of which nothing is sent
module _ (s : Ideal) (name uuid new : Bytes) (f : Draft → Draft) (device : (x : Draft) → (f x).device ≡ x.device)
    (named : (x : Draft) → is_draft name uuid x ≡ true → (f x).uuid ≡ new) (unsent : (e : Draft) → draft_at (moved s name uuid f) name new ≡ Some e → e.posted ≡ None) where
  -- rows of another device
  pub moved_keeps : (rows : Rows) (other : Bytes) → other ≢ name → ShowsDevice rows s other → ShowsDevice rows (moved s name uuid f) other
  moved_keeps rows other apart h =
      shows_alike rows s (moved s name uuid f) other refl (λ i. refl)
      (λ item. find_past_changed (is_draft other item) (is_draft name uuid) f
      (λ x t. not_of_device name other item x apart (draft_is name uuid x t).0)
      (λ x t. not_of_device name other item (f x) apart (device x ∙ (draft_is name uuid x t).0)) s.drafts) h

  -- drafts of which something was sent
  sent_before : (other item : Bytes) (e : Draft) → draft_at (moved s name uuid f) other item ≡ Some e → e.posted ≢ None → draft_at s other item ≡ Some e
  sent_before other item e h some = by (bytes_eq other name) refl (bytes_eq item new) refl
    where
      by : (b : Bool) → bytes_eq other name ≡ b → (c : Bool) → bytes_eq item new ≡ c → draft_at s other item ≡ Some e
      by false off c k =
          let apart : other ≢ name = λ same. clash (bytes_eq other name) (text_same other name same) off in
          sym (find_past_changed (is_draft other item) (is_draft name uuid) f
          (λ x t. not_of_device name other item x apart (draft_is name uuid x t).0)
          (λ x t. not_of_device name other item (f x) apart (device x ∙ (draft_is name uuid x t).0)) s.drafts) ∙ h
      by true same false off =
          let apart : item ≢ new = λ is. clash (bytes_eq item new) (text_same item new is) off in
          let own : draft_at (moved s name uuid f) name item ≡ Some e = subst (λ (o : Bytes). draft_at (moved s name uuid f) o item ≡ Some e) (same_text other name same) h in
          subst (λ (o : Bytes). draft_at s o item ≡ Some e) (sym (same_text other name same))
          (draft_before s name uuid name item e
          (sym (find_changed_without (is_draft name item) (is_draft name uuid) f (λ x t. not_of_item name new item (f x) apart (named x t)) s.drafts) ∙ own))
      by true same true is =
          let own : draft_at (moved s name uuid f) name new ≡ Some e =
          subst (λ (u : Bytes). draft_at (moved s name uuid f) name u ≡ Some e) (same_text item new is)
          (subst (λ (o : Bytes). draft_at (moved s name uuid f) o item ≡ Some e) (same_text other name same) h) in
          absurd (some (unsent e own))

  pub moved_numbers : ((other : Bytes) → NumbersOf s other) → (other : Bytes) → NumbersOf (moved s name uuid f) other
  moved_numbers h = numbers_kept s (changed_where (is_draft name uuid) f s.drafts) sent_before h

-- Where the drafts after a move come from.
use Rattle.std.proofs.Common.{◌≡◌, ◌⊎◌, ℕ, Option, Some, None, Bool, true, false, refl, sym, ◌∙◌, subst, inl, inr, ⊎_elim}
use Rattle.std.specs.Prelude.{if◌then◌else◌, IsTrue}
use Rattle.std.specs.Option.{option_map}
use Rattle.sn_laws.specs.declared.ideal.Content.{Content}
use Rattle.sn_laws.specs.declared.ideal.Draft.{Draft}
use Rattle.sn_laws.specs.declared.ideal.Ideal.{Ideal}
use Rattle.sn_laws.specs.declared.moves.Move.{Move}
use Rattle.sn_laws.specs.declared.moves.Move.TheVariants.{Register, Join, Edit, Drop, Post, Unpost, Accept, Rewrap, Settle, SettlePosted, Fork, Rename, GiveWay, Change, Retire}
use Rattle.sn_laws.specs.Kept.{is_of_draft}
use Rattle.sn_laws.specs.Lookups.{Bytes, device_named, draft_at, greatest, held_by}
use Rattle.sn_laws.specs.Moves.{after, allows, forked, posted_under, renamed, settled_at, unposted}
use Rattle.sn_laws.proofs.DraftFrames.{draft_after, draft_edited, same_draft}

-- a draft that is there after a move was there, or is what the move made of one, or is new
pub data DraftFrom (s : Ideal) (m : Move) (device uuid : Bytes) (d : Draft) : Type 0 where
  as_was : draft_at s device uuid ≡ Some d → DraftFrom s m device uuid d
  by_edit : (kind : Bytes) (base : Option ℕ) (latest : Content) → m ≡ Edit device uuid kind base latest
      → d ≡ draft_edited device uuid kind base latest (draft_at s device uuid) → DraftFrom s m device uuid d
  by_post : (was : Draft) → draft_at s device uuid ≡ Some was → m ≡ Post device uuid
      → d ≡ posted_under (greatest 0 (held_by (device_named s device))) was → DraftFrom s m device uuid d
  by_unpost : (was : Draft) → draft_at s device uuid ≡ Some was → m ≡ Unpost device uuid → d ≡ unposted was → DraftFrom s m device uuid d
  by_settle : (stamp : ℕ) (was : Draft) → draft_at s device uuid ≡ Some was → m ≡ SettlePosted device uuid stamp → d ≡ settled_at stamp was
      → DraftFrom s m device uuid d
  by_fork : (item : Bytes) (was : Draft) → draft_at s device item ≡ Some was → m ≡ Fork device item uuid → d ≡ forked uuid was
      → DraftFrom s m device uuid d
  by_rename : (item : Bytes) (was : Draft) → draft_at s device item ≡ Some was → m ≡ Rename device item uuid → d ≡ renamed uuid was
      → DraftFrom s m device uuid d

mapped : {A : Type 0} (f : A → A) (found : Option A) (x : A) → option_map f found ≡ Some x → (y : A) × (found ≡ Some y) × (x ≡ f y)
mapped f None x h = absurd (cc)
mapped f (Some y) x h = (y, refl, cc)

-- what isn't taken out was there
from_gone : (b : Bool) (before : Option Draft) (d : Draft) → (if b then None else before) ≡ Some d → before ≡ Some d
from_gone true before d h = absurd (cc)
from_gone false before d h = h

-- what was changed is of this device and item
from_changed : (device uuid name item : Bytes) (changed before : Option Draft) (d : Draft)
    → (if is_of_draft device uuid name item then changed else before) ≡ Some d
    → ((name ≡ device) × (item ≡ uuid) × (changed ≡ Some d)) ⊎ (before ≡ Some d)
from_changed device uuid name item next before d h = at (is_of_draft device uuid name item) refl h
  where
    at : (b : Bool) → is_of_draft device uuid name item ≡ b → (if b then next else before) ≡ Some d
        → ((name ≡ device) × (item ≡ uuid) × (next ≡ Some d)) ⊎ (before ≡ Some d)
    at true e k = let same = same_draft device uuid name item e in inl (same.0, same.1, k)
    at false e k = inr k

pub draft_from : (s : Ideal) (m : Move) (device uuid : Bytes) (d : Draft) → IsTrue (allows s m) → draft_at (after s m) device uuid ≡ Some d
    → DraftFrom s m device uuid d
draft_from s (Register identifier set) device uuid d may h = as_was h
draft_from s (Join name identifier number) device uuid d may h = as_was h
draft_from s (Edit name item kind base latest) device uuid d may h =
    ⊎_elim (λ e. by_edit kind base latest (named e.0 e.1) (is e.0 e.1 e.2)) (λ e. as_was e)
    (from_changed device uuid name item (Some (draft_edited name item kind base latest (draft_at s name item))) (draft_at s device uuid) d
    (sym (draft_after s (Edit name item kind base latest) device uuid may) ∙ h))
  where
    named : name ≡ device → item ≡ uuid → Edit name item kind base latest ≡ Edit device uuid kind base latest
    named e k = cc

    is : name ≡ device → item ≡ uuid → Some (draft_edited name item kind base latest (draft_at s name item)) ≡ Some d
        → d ≡ draft_edited device uuid kind base latest (draft_at s device uuid)
    is e k f =
        let same : draft_edited name item kind base latest (draft_at s name item) ≡ d = cc in
        subst (λ n. d ≡ draft_edited n uuid kind base latest (draft_at s n uuid)) e
        (subst (λ i. d ≡ draft_edited name i kind base latest (draft_at s name i)) k (sym same))
draft_from s (Drop name item) device uuid d may h =
    as_was (from_gone (is_of_draft device uuid name item) (draft_at s device uuid) d (sym (draft_after s (Drop name item) device uuid may) ∙ h))
draft_from s (Post name item) device uuid d may h =
    ⊎_elim by (λ e. as_was e)
    (from_changed device uuid name item (option_map (posted_under (greatest 0 (held_by (device_named s name)))) (draft_at s device uuid))
    (draft_at s device uuid) d (sym (draft_after s (Post name item) device uuid may) ∙ h))
  where
    by : (name ≡ device) × (item ≡ uuid) × (option_map (posted_under (greatest 0 (held_by (device_named s name)))) (draft_at s device uuid) ≡ Some d)
        → DraftFrom s (Post name item) device uuid d
    by e =
        let was = mapped (posted_under (greatest 0 (held_by (device_named s name)))) (draft_at s device uuid) d e.2 in
        by_post was.0 was.1 (named e.0 e.1) (subst (λ n. d ≡ posted_under (greatest 0 (held_by (device_named s n))) was.0) e.0 was.2)
      where
        named : name ≡ device → item ≡ uuid → Post name item ≡ Post device uuid
        named e k = cc
draft_from s (Unpost name item) device uuid d may h =
    ⊎_elim by (λ e. as_was e)
    (from_changed device uuid name item (option_map unposted (draft_at s device uuid)) (draft_at s device uuid) d
    (sym (draft_after s (Unpost name item) device uuid may) ∙ h))
  where
    named : name ≡ device → item ≡ uuid → Unpost name item ≡ Unpost device uuid
    named e k = cc

    by : (name ≡ device) × (item ≡ uuid) × (option_map unposted (draft_at s device uuid) ≡ Some d) → DraftFrom s (Unpost name item) device uuid d
    by e = let was = mapped unposted (draft_at s device uuid) d e.2 in by_unpost was.0 was.1 (named e.0 e.1) was.2
draft_from s (Accept name item stamp under) device uuid d may h = as_was h
draft_from s (Rewrap item stamp under) device uuid d may h = as_was h
draft_from s (Settle name item) device uuid d may h =
    as_was (from_gone (is_of_draft device uuid name item) (draft_at s device uuid) d (sym (draft_after s (Settle name item) device uuid may) ∙ h))
draft_from s (SettlePosted name item stamp) device uuid d may h =
    ⊎_elim by (λ e. as_was e)
    (from_changed device uuid name item (option_map (settled_at stamp) (draft_at s device uuid)) (draft_at s device uuid) d
    (sym (draft_after s (SettlePosted name item stamp) device uuid may) ∙ h))
  where
    named : name ≡ device → item ≡ uuid → SettlePosted name item stamp ≡ SettlePosted device uuid stamp
    named e k = cc

    by : (name ≡ device) × (item ≡ uuid) × (option_map (settled_at stamp) (draft_at s device uuid) ≡ Some d)
        → DraftFrom s (SettlePosted name item stamp) device uuid d
    by e = let was = mapped (settled_at stamp) (draft_at s device uuid) d e.2 in by_settle stamp was.0 was.1 (named e.0 e.1) was.2
draft_from s (Fork name item other) device uuid d may h =
    ⊎_elim by (λ e. as_was (from_gone (is_of_draft device uuid name item) (draft_at s device uuid) d e))
    (from_changed device uuid name other (option_map (forked other) (draft_at s name item))
    (if is_of_draft device uuid name item then None else draft_at s device uuid) d (sym (draft_after s (Fork name item other) device uuid may) ∙ h))
  where
    named : name ≡ device → other ≡ uuid → Fork name item other ≡ Fork device item uuid
    named e k = cc

    by : (name ≡ device) × (other ≡ uuid) × (option_map (forked other) (draft_at s name item) ≡ Some d) → DraftFrom s (Fork name item other) device uuid d
    by e =
        let was = mapped (forked other) (draft_at s name item) d e.2 in
        by_fork item was.0 (subst (λ n. draft_at s n item ≡ Some was.0) e.0 was.1) (named e.0 e.1) (subst (λ u. d ≡ forked u was.0) e.1 was.2)
draft_from s (Rename name item other) device uuid d may h =
    ⊎_elim by (λ e. as_was (from_gone (is_of_draft device uuid name item) (draft_at s device uuid) d e))
    (from_changed device uuid name other (option_map (renamed other) (draft_at s name item))
    (if is_of_draft device uuid name item then None else draft_at s device uuid) d (sym (draft_after s (Rename name item other) device uuid may) ∙ h))
  where
    named : name ≡ device → other ≡ uuid → Rename name item other ≡ Rename device item uuid
    named e k = cc

    by : (name ≡ device) × (other ≡ uuid) × (option_map (renamed other) (draft_at s name item) ≡ Some d) → DraftFrom s (Rename name item other) device uuid d
    by e =
        let was = mapped (renamed other) (draft_at s name item) d e.2 in
        by_rename item was.0 (subst (λ n. draft_at s n item ≡ Some was.0) e.0 was.1) (named e.0 e.1) (subst (λ u. d ≡ renamed u was.0) e.1 was.2)
draft_from s (GiveWay name item) device uuid d may h =
    as_was (from_gone (is_of_draft device uuid name item) (draft_at s device uuid) d (sym (draft_after s (GiveWay name item) device uuid may) ∙ h))
draft_from s (Change identifier number set) device uuid d may h = as_was h
draft_from s (Retire name number) device uuid d may h = as_was h

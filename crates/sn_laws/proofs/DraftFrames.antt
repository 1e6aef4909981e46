-- What each move leaves of the drafts.
use Rattle.std.proofs.Common.{◌≡◌, ℕ, List, [], ◌∷◌, ◌++◌, Option, Some, None, Bool, true, false, refl, sym, ap, ◌∙◌, subst}
use Rattle.std.specs.Prelude.{cond, if◌then◌else◌, find, IsTrue, ◌&&◌, is_none}
use Rattle.std.specs.Option.{option_map}
use Rattle.std.specs.Str.{bytes_eq}
use Rattle.std.proofs.lemmas.Bool.{and_parts}
use Rattle.sn_laws.specs.declared.ideal.Account.{Account}
use Rattle.sn_laws.specs.declared.ideal.Content.{Content}
use Rattle.sn_laws.specs.declared.ideal.Draft.{Draft}
use Rattle.sn_laws.specs.declared.ideal.Ideal.{Ideal}
use Rattle.sn_laws.specs.declared.moves.Move.{Move}
use Rattle.sn_laws.specs.declared.moves.Move.TheVariants.{Register, Join, Edit, Drop, Post, Unpost, Accept, Rewrap, Settle, SettlePosted, Fork, Rename, GiveWay, Change, Retire}
use Rattle.sn_laws.specs.Kept.{is_of_draft}
use Rattle.sn_laws.specs.Lookups.{Bytes, account_of, device_named, draft_at, greatest, held_by, is_draft, last_of}
use Rattle.sn_laws.specs.Moves.{after, allows, changed_where, edited, forked, is_elsewhere, is_plain, may_fork, may_rename, meets_other, posted_under, renamed, settled_at, unposted, without}
use Rattle.sn_laws.proofs.EachLemmas.{and_both, clash, is_false, same_text, text_same}
use Rattle.sn_laws.proofs.FindLemmas.{found_after, found_apart, found_beside, found_changed, found_come, found_gone, found_still, found_without}

-- the draft that an edit leaves
abbrev pub draft_edited : Bytes → Bytes → Bytes → Option ℕ → Content → Option Draft → Draft
draft_edited device uuid kind base latest None = record { device = device; uuid = uuid; kind = kind; base = base; latest = latest; posted = None }
draft_edited device uuid kind base latest (Some d) = record d { latest = latest }

-- the draft of a device and a uuid after a move that is allowed
abbrev pub draft_next : Ideal → Move → Bytes → Bytes → Option Draft
draft_next s (Edit name item kind base latest) device uuid =
    if is_of_draft device uuid name item then Some (draft_edited name item kind base latest (draft_at s name item)) else draft_at s device uuid
draft_next s (Drop name item) device uuid = if is_of_draft device uuid name item then None else draft_at s device uuid
draft_next s (Post name item) device uuid =
    if is_of_draft device uuid name item then option_map (posted_under (greatest 0 (held_by (device_named s name)))) (draft_at s device uuid) else draft_at s device uuid
draft_next s (Unpost name item) device uuid = if is_of_draft device uuid name item then option_map unposted (draft_at s device uuid) else draft_at s device uuid
draft_next s (Settle name item) device uuid = if is_of_draft device uuid name item then None else draft_at s device uuid
draft_next s (SettlePosted name item stamp) device uuid =
    if is_of_draft device uuid name item then option_map (settled_at stamp) (draft_at s device uuid) else draft_at s device uuid
draft_next s (Fork name item other) device uuid =
    if is_of_draft device uuid name other then option_map (forked other) (draft_at s name item)
    else (if is_of_draft device uuid name item then None else draft_at s device uuid)
draft_next s (Rename name item other) device uuid =
    if is_of_draft device uuid name other then option_map (renamed other) (draft_at s name item)
    else (if is_of_draft device uuid name item then None else draft_at s device uuid)
draft_next s (GiveWay name item) device uuid = if is_of_draft device uuid name item then None else draft_at s device uuid
draft_next s m device uuid = draft_at s device uuid

-- one draft or another

pub same_draft : (device uuid name item : Bytes) → is_of_draft device uuid name item ≡ true → (name ≡ device) × (item ≡ uuid)
same_draft device uuid name item h =
    let both = and_parts (bytes_eq name device) (bytes_eq item uuid) h in
    (same_text name device both.0, same_text item uuid both.1)

pub draft_same : (device uuid name item : Bytes) → name ≡ device → item ≡ uuid → is_of_draft device uuid name item ≡ true
draft_same device uuid name item e k = and_both (bytes_eq name device) (bytes_eq item uuid) (text_same name device e) (text_same item uuid k)

pub draft_is : (device uuid : Bytes) (d : Draft) → is_draft device uuid d ≡ true → (d.device ≡ device) × (d.uuid ≡ uuid)
draft_is device uuid d h =
    let both = and_parts (bytes_eq d.device device) (bytes_eq d.uuid uuid) h in
    (same_text d.device device both.0, same_text d.uuid uuid both.1)

-- what is another draft isn't this one
other_draft : (device uuid name item : Bytes) → is_of_draft device uuid name item ≡ false → (d : Draft) → is_draft name item d ≡ true
    → is_draft device uuid d ≡ false
other_draft device uuid name item differs d h = is_false (is_draft device uuid d) both
  where
    both : is_draft device uuid d ≡ true → ⊥
    both k =
        let that = draft_is name item d h in
        let this = draft_is device uuid d k in
        clash (is_of_draft device uuid name item) (draft_same device uuid name item (sym that.0 ∙ this.0) (sym that.1 ∙ this.1)) differs

-- a draft with another uuid
moved_off : (device uuid name other : Bytes) → is_of_draft device uuid name other ≡ false → (d : Draft) → d.device ≡ name
    → (bytes_eq d.device device && bytes_eq other uuid) ≡ false
moved_off device uuid name other differs d e = subst (λ n. (bytes_eq n device && bytes_eq other uuid) ≡ false) (sym e) differs

-- each way in which drafts change

gone : (drafts : List Draft) (device uuid name item : Bytes)
    → find (is_draft device uuid) (without (is_draft name item) drafts)
    ≡ (if is_of_draft device uuid name item then None else find (is_draft device uuid) drafts)
gone drafts device uuid name item = at (is_of_draft device uuid name item) refl
  where
    at : (b : Bool) → is_of_draft device uuid name item ≡ b
        → find (is_draft device uuid) (without (is_draft name item) drafts) ≡ (if b then None else find (is_draft device uuid) drafts)
    at true e =
        let same = same_draft device uuid name item e in
        subst (λ n. find (is_draft device uuid) (without (is_draft n item) drafts) ≡ None) (sym same.0)
        (subst (λ i. find (is_draft device uuid) (without (is_draft device i) drafts) ≡ None) (sym same.1) (found_without (is_draft device uuid) drafts))
    at false e = found_still (is_draft device uuid) (is_draft name item) (other_draft device uuid name item e) drafts

changed : (f : Draft → Draft) → ((device uuid : Bytes) (d : Draft) → is_draft device uuid (f d) ≡ is_draft device uuid d)
    → (drafts : List Draft) (device uuid name item : Bytes)
    → find (is_draft device uuid) (changed_where (is_draft name item) f drafts)
    ≡ (if is_of_draft device uuid name item then option_map f (find (is_draft device uuid) drafts) else find (is_draft device uuid) drafts)
changed f keeps drafts device uuid name item = at (is_of_draft device uuid name item) refl
  where
    at : (b : Bool) → is_of_draft device uuid name item ≡ b → find (is_draft device uuid) (changed_where (is_draft name item) f drafts)
        ≡ (if b then option_map f (find (is_draft device uuid) drafts) else find (is_draft device uuid) drafts)
    at true e =
        let same = same_draft device uuid name item e in
        subst (λ n. find (is_draft device uuid) (changed_where (is_draft n item) f drafts) ≡ option_map f (find (is_draft device uuid) drafts)) (sym same.0)
        (subst (λ i. find (is_draft device uuid) (changed_where (is_draft device i) f drafts) ≡ option_map f (find (is_draft device uuid) drafts)) (sym same.1)
        (found_changed (is_draft device uuid) f (keeps device uuid) drafts))
    at false e =
        found_apart (is_draft device uuid) (is_draft name item) f (other_draft device uuid name item e)
        (λ d h. keeps device uuid d ∙ other_draft device uuid name item e d h) drafts

-- the draft goes on under another uuid, under which there was none
moved : (f : Draft → Draft) (other : Bytes)
    → ((device uuid : Bytes) (d : Draft) → is_draft device uuid (f d) ≡ (bytes_eq d.device device && bytes_eq other uuid))
    → (drafts : List Draft) (device uuid name item : Bytes) → find (is_draft name other) drafts ≡ None
    → find (is_draft device uuid) (changed_where (is_draft name item) f drafts)
    ≡ (if is_of_draft device uuid name other then option_map f (find (is_draft name item) drafts)
    else (if is_of_draft device uuid name item then None else find (is_draft device uuid) drafts))
moved f other is drafts device uuid name item free = at (is_of_draft device uuid name other) refl
  where
    come : find (is_draft name other) (changed_where (is_draft name item) f drafts) ≡ option_map f (find (is_draft name item) drafts)
    come =
        found_come (is_draft name other) (is_draft name item) f
        (λ d h. is name other d ∙ and_both (bytes_eq d.device name) (bytes_eq other other) (text_same d.device name (draft_is name item d h).0) (text_same other other refl))
        drafts free

    within : is_of_draft device uuid name other ≡ false → (c : Bool) → is_of_draft device uuid name item ≡ c
        → find (is_draft device uuid) (changed_where (is_draft name item) f drafts) ≡ (if c then None else find (is_draft device uuid) drafts)
    within e true k =
        let same = same_draft device uuid name item k in
        let off : (d : Draft) → is_draft name item d ≡ true → is_draft device uuid (f d) ≡ false =
        λ d h. is device uuid d ∙ moved_off device uuid name other e d (draft_is name item d h).0 in
        subst (λ n. find (is_draft n uuid) (changed_where (is_draft name item) f drafts) ≡ None) same.0
        (subst (λ i. find (is_draft name i) (changed_where (is_draft name item) f drafts) ≡ None) same.1
        (found_gone (is_draft name item) f
        (λ d h. subst (λ n. is_draft n item (f d) ≡ false) (sym same.0) (subst (λ i. is_draft device i (f d) ≡ false) (sym same.1) (off d h))) drafts))
    within e false k =
        found_apart (is_draft device uuid) (is_draft name item) f (other_draft device uuid name item k)
        (λ d h. is device uuid d ∙ moved_off device uuid name other e d (draft_is name item d h).0) drafts

    at : (b : Bool) → is_of_draft device uuid name other ≡ b → find (is_draft device uuid) (changed_where (is_draft name item) f drafts)
        ≡ (if b then option_map f (find (is_draft name item) drafts)
        else (if is_of_draft device uuid name item then None else find (is_draft device uuid) drafts))
    at true e =
        let same = same_draft device uuid name other e in
        subst (λ n. find (is_draft n uuid) (changed_where (is_draft name item) f drafts) ≡ option_map f (find (is_draft name item) drafts)) same.0
        (subst (λ i. find (is_draft name i) (changed_where (is_draft name item) f drafts) ≡ option_map f (find (is_draft name item) drafts)) same.1 come)
    at false e = within e (is_of_draft device uuid name item) refl

-- a new draft where there was none, else a changed one
edit : (drafts : List Draft) (device uuid name item kind : Bytes) (base : Option ℕ) (latest : Content) (found : Option Draft)
    → find (is_draft name item) drafts ≡ found
    → find (is_draft device uuid) (edited drafts name item kind base latest found)
    ≡ (if is_of_draft device uuid name item then Some (draft_edited name item kind base latest found) else find (is_draft device uuid) drafts)
edit drafts device uuid name item kind base latest None h = at (is_of_draft device uuid name item) refl
  where
    at : (b : Bool) → is_of_draft device uuid name item ≡ b
        → find (is_draft device uuid) (drafts ++ draft_edited name item kind base latest None ∷ [])
        ≡ (if b then Some (draft_edited name item kind base latest None) else find (is_draft device uuid) drafts)
    at true e =
        let same = same_draft device uuid name item e in
        let none : find (is_draft device uuid) drafts ≡ None =
        subst (λ n. find (is_draft n uuid) drafts ≡ None) same.0 (subst (λ i. find (is_draft name i) drafts ≡ None) same.1 h) in
        found_after (is_draft device uuid) drafts (draft_edited name item kind base latest None ∷ []) none
        ∙ ap (λ b. cond b (Some (draft_edited name item kind base latest None)) None) e
    at false e = found_beside (is_draft device uuid) drafts (draft_edited name item kind base latest None) e
edit drafts device uuid name item kind base latest (Some d) h =
    changed (λ (x : Draft). record x { latest = latest }) (λ _ _ _. refl) drafts device uuid name item ∙ at (is_of_draft device uuid name item) refl
  where
    at : (b : Bool) → is_of_draft device uuid name item ≡ b
        → (if b then option_map (λ (x : Draft). record x { latest = latest }) (find (is_draft device uuid) drafts) else find (is_draft device uuid) drafts)
        ≡ (if b then Some (record d { latest = latest }) else find (is_draft device uuid) drafts)
    at true e =
        let same = same_draft device uuid name item e in
        ap (option_map (λ (x : Draft). record x { latest = latest }))
        (subst (λ n. find (is_draft n uuid) drafts ≡ Some d) same.0 (subst (λ i. find (is_draft name i) drafts ≡ Some d) same.1 h))
    at false e = refl

-- the device has no draft under the new uuid

nothing : {A : Type 0} (found : Option A) → is_none found ≡ true → found ≡ None
nothing None h = refl
nothing (Some x) h = absurd (cc)

pub fork_free : (a : Option Account) (held : List ℕ) (d other : Option Draft) (uuid : Bytes) → may_fork a held d other uuid ≡ true → other ≡ None
fork_free None held d other uuid h = absurd (cc)
fork_free (Some a) held None other uuid h = absurd (cc)
fork_free (Some a) held (Some d) other uuid h =
    nothing other
    (and_parts (is_plain d.latest) (is_none other)
    (and_parts (is_plain d.latest && is_none other) (meets_other held d (last_of uuid a.versions)) h).0).1

pub rename_free : (accounts : List Account) (a : Option Account) (d other : Option Draft) (uuid : Bytes) → may_rename accounts a d other uuid ≡ true
    → other ≡ None
rename_free accounts None d other uuid h = absurd (cc)
rename_free accounts (Some a) None other uuid h = absurd (cc)
rename_free accounts (Some a) (Some d) other uuid h =
    nothing other
    (and_parts (is_none d.base) (is_none other) (and_parts (is_none d.base && is_none other) (is_elsewhere accounts a uuid) h).0).1

-- the frame
pub draft_after : (s : Ideal) (m : Move) (device uuid : Bytes) → IsTrue (allows s m) → draft_at (after s m) device uuid ≡ draft_next s m device uuid
draft_after s (Register identifier set) device uuid h = refl
draft_after s (Join name identifier number) device uuid h = refl
draft_after s (Edit name item kind base latest) device uuid h = edit s.drafts device uuid name item kind base latest (draft_at s name item) refl
draft_after s (Drop name item) device uuid h = gone s.drafts device uuid name item
draft_after s (Post name item) device uuid h =
    changed (posted_under (greatest 0 (held_by (device_named s name)))) (λ _ _ _. refl) s.drafts device uuid name item
draft_after s (Unpost name item) device uuid h = changed unposted (λ _ _ _. refl) s.drafts device uuid name item
draft_after s (Accept name item stamp under) device uuid h = refl
draft_after s (Rewrap item stamp under) device uuid h = refl
draft_after s (Settle name item) device uuid h = gone s.drafts device uuid name item
draft_after s (SettlePosted name item stamp) device uuid h = changed (settled_at stamp) (λ _ _ _. refl) s.drafts device uuid name item
draft_after s (Fork name item other) device uuid h =
    moved (forked other) other (λ _ _ _. refl) s.drafts device uuid name item
    (fork_free (account_of s name) (held_by (device_named s name)) (draft_at s name item) (draft_at s name other) item h)
draft_after s (Rename name item other) device uuid h =
    moved (renamed other) other (λ _ _ _. refl) s.drafts device uuid name item
    (rename_free s.accounts (account_of s name) (draft_at s name item) (draft_at s name other) item h)
draft_after s (GiveWay name item) device uuid h = gone s.drafts device uuid name item
draft_after s (Change identifier number set) device uuid h = refl
draft_after s (Retire name number) device uuid h = refl

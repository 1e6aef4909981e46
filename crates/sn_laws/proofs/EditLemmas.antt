-- An edit is replaced, or it or a copy of it is in the draft or is a version.
use Rattle.std.proofs.Common.{◌≡◌, ◌⊎◌, ℕ, List, [], ◌∷◌, Option, Some, None, Bool, true, false, refl, sym, ap, ◌∙◌, subst, inl, inr, ⊎_elim}
use Rattle.std.specs.Prelude.{◌&&◌, if◌then◌else◌, IsTrue, not}
use Rattle.std.specs.Option.{option_map}
use Rattle.std.specs.Str.{bytes_eq}
use Rattle.std.proofs.lemmas.Bool.{and_parts}
use Rattle.sn_laws.specs.declared.ideal.Account.{Account}
use Rattle.sn_laws.specs.declared.ideal.Body.{Body}
use Rattle.sn_laws.specs.declared.ideal.Body.TheVariants.{Under, Gone}
use Rattle.sn_laws.specs.declared.ideal.Content.{Content}
use Rattle.sn_laws.specs.declared.ideal.Content.TheVariants.{Plain, Deleted}
use Rattle.sn_laws.specs.declared.ideal.Draft.{Draft}
use Rattle.sn_laws.specs.declared.ideal.Ideal.{Ideal}
use Rattle.sn_laws.specs.declared.ideal.Version.{Version}
use Rattle.sn_laws.specs.declared.moves.Move.{Move}
use Rattle.sn_laws.specs.declared.moves.Move.TheVariants.{Register, Join, Edit, Drop, Post, Unpost, Accept, Rewrap, Settle, SettlePosted, Fork, Rename, GiveWay, Change, Retire}
use Rattle.sn_laws.specs.Each.{One}
use Rattle.sn_laws.specs.Kept.{Copies, EditsKept, IsAccepted, IsDraftOf, IsDrafted, IsKept, IsOnTrail, IsReplaced, IsVersionOf, Replaces, is_of_draft, next_uuid, trail}
use Rattle.sn_laws.specs.Lookups.{Bytes, account_of, device_named, draft_at, empty, greatest, held_by, last_of}
use Rattle.sn_laws.specs.Moves.{after, allows, copied, forked, is_as, is_content_of, is_last, is_plain, is_writable, may_edit, may_give_way, may_settle, may_write, same_base, meets_live, posted_under, renamed, settled_at, unposted}
use Rattle.sn_laws.specs.Runs.{LegalFrom, end, end_from}
use Rattle.sn_notes.specs.Copies.{copy_of}
use Rattle.sn_laws.proofs.AccountFrames.{Stays, own_account_stays}
use Rattle.sn_laws.proofs.ChangedLemmas.{one_front, one_weaker}
use Rattle.sn_laws.proofs.DraftFrames.{draft_after, draft_edited, draft_same, fork_free, rename_free, same_draft}
use Rattle.sn_laws.proofs.EachLemmas.{same_text}
use Rattle.sn_laws.proofs.RunLemmas.{end_from-append, legal_after}
use Rattle.sn_laws.proofs.LastLemmas.{last_among}
use Rattle.sn_laws.proofs.RelatedLemmas.{one_there}

-- a version that has the text, of such an item
abbrev HasText : Bytes → Bytes → (Bytes → Type 0) → Version → Type 0
HasText kind text IsItem v = IsItem v.uuid × (v.kind ≡ kind) × IsVersionOf text v.body

-- a version stays one

accepted_stays : (s : Ideal) (m : Move) (device kind text : Bytes) (IsItem : Bytes → Type 0) → IsTrue (allows s m)
    → IsAccepted s device kind text IsItem → IsAccepted (after s m) device kind text IsItem
accepted_stays s m device kind text IsItem may h =
    let there : Stays h.account (account_of (after s m) device) = own_account_stays s m device h.account may h.has in
    record {
      account = there.now_is;
      has = there.found_is;
      version = subst (One (HasText kind text IsItem)) (sym there.grown.versions_are)
          (one_front (HasText kind text IsItem) h.account.versions there.grown.versions h.version);
    }

accepted_all : (s : Ideal) (ms : List Move) (device kind text : Bytes) (IsItem : Bytes → Type 0) → LegalFrom s ms
    → IsAccepted s device kind text IsItem → IsAccepted (end_from s ms) device kind text IsItem
accepted_all s [] device kind text IsItem legal h = h
accepted_all s (m ∷ ms) device kind text IsItem legal h =
    accepted_all (after s m) ms device kind text IsItem legal.1 (accepted_stays s m device kind text IsItem legal.0 h)

accepted_weaker : (s : Ideal) (device kind text : Bytes) (P Q : Bytes → Type 0) → ((item : Bytes) → P item → Q item) → IsAccepted s device kind text P
    → IsAccepted s device kind text Q
accepted_weaker s device kind text P Q f h =
    record {
      account = h.account;
      has = h.has;
      version = one_weaker (HasText kind text P) (HasText kind text Q) (λ v e. (f v.uuid e.0, e.1, e.2)) h.account.versions h.version;
    }

-- a draft stays, moves on or becomes a version

-- where the move isn't of the draft, it stays
stays_or_same : (s : Ideal) (m : Move) (device uuid name item kind text : Bytes) (next : Option Draft)
    → draft_at (after s m) device uuid ≡ (if is_of_draft device uuid name item then next else draft_at s device uuid)
    → IsDrafted s device uuid kind text → (is_of_draft device uuid name item ≡ true) ⊎ IsDrafted (after s m) device uuid kind text
stays_or_same s m device uuid name item kind text next frame h = at (is_of_draft device uuid name item) refl frame
  where
    at : (b : Bool) → is_of_draft device uuid name item ≡ b → draft_at (after s m) device uuid ≡ (if b then next else draft_at s device uuid)
        → (is_of_draft device uuid name item ≡ true) ⊎ IsDrafted (after s m) device uuid kind text
    at true e k = inl e
    at false e k = inr (record { draft = h.draft; at = k ∙ h.at; kind_is = h.kind_is; content = h.content })

-- what is changed, but not its content
stays_changed : (s : Ideal) (m : Move) (device uuid kind text : Bytes) (b : Bool) (f : Draft → Draft) → ((d : Draft) → (f d).latest ≡ d.latest) → ((d : Draft) → (f d).kind ≡ d.kind)
    → draft_at (after s m) device uuid ≡ (if b then option_map f (draft_at s device uuid) else draft_at s device uuid)
    → IsDrafted s device uuid kind text → IsDrafted (after s m) device uuid kind text
stays_changed s m device uuid kind text true f same alike frame h =
    record { draft = f h.draft; at = frame ∙ ap (option_map f) h.at; kind_is = alike h.draft ∙ h.kind_is; content = subst (IsDraftOf text) (sym (same h.draft)) h.content }
stays_changed s m device uuid kind text false f same alike frame h = record { draft = h.draft; at = frame ∙ h.at; kind_is = h.kind_is; content = h.content }

-- under another uuid, under which there was no draft
goes_on : (s : Ideal) (m : Move) (device uuid name item other kind text : Bytes) (f : Draft → Draft)
    → ((dev u : Bytes) → draft_at (after s m) dev u ≡ (if is_of_draft dev u name other then option_map f (draft_at s name item)
    else (if is_of_draft dev u name item then None else draft_at s dev u)))
    → draft_at s name other ≡ None → ((d : Draft) → IsDraftOf text d.latest → IsDraftOf text (f d).latest) → ((d : Draft) → (f d).kind ≡ d.kind)
    → IsDrafted s device uuid kind text → IsDrafted (after s m) device (if is_of_draft device uuid name item then other else uuid) kind text
goes_on s m device uuid name item other kind text f frame free keeps alike h = at (is_of_draft device uuid name item) refl
  where
    -- the draft isn't the one that comes to be
    elsewhere : (b : Bool) → is_of_draft device uuid name other ≡ b
        → draft_at (after s m) device uuid ≡ (if b then option_map f (draft_at s name item)
        else (if is_of_draft device uuid name item then None else draft_at s device uuid))
        → draft_at (after s m) device uuid ≡ (if is_of_draft device uuid name item then None else draft_at s device uuid)
    elsewhere true e k =
        let same = same_draft device uuid name other e in
        let none : draft_at s device uuid ≡ None =
        subst (λ n. draft_at s n uuid ≡ None) same.0 (subst (λ i. draft_at s name i ≡ None) same.1 free) in
        let clash : Some h.draft ≡ None = sym h.at ∙ none in
        absurd (cc)
    elsewhere false e k = k

    at : (b : Bool) → is_of_draft device uuid name item ≡ b → IsDrafted (after s m) device (if b then other else uuid) kind text
    at true e =
        let same = same_draft device uuid name item e in
        let was : draft_at s name item ≡ Some h.draft =
        subst (λ n. draft_at s n item ≡ Some h.draft) (sym same.0) (subst (λ i. draft_at s device i ≡ Some h.draft) (sym same.1) h.at) in
        record {
          draft = f h.draft;
          at = frame device other
              ∙ ap (λ b. if b then option_map f (draft_at s name item) else (if is_of_draft device other name item then None else draft_at s device other))
              (draft_same device other name other same.0 refl)
              ∙ ap (option_map f) was;
          kind_is = alike h.draft ∙ h.kind_is;
          content = keeps h.draft h.content;
        }
    at false e =
        record {
          draft = h.draft;
          at = elsewhere (is_of_draft device uuid name other) refl (frame device uuid)
              ∙ ap (λ b. if b then None else draft_at s device uuid) e ∙ h.at;
          kind_is = h.kind_is;
          content = h.content;
        }

-- a copy of the text is one of the copies
copy_has : (text : Bytes) (latest : Content) (uuid : Bytes) → IsDraftOf text latest → IsDraftOf text (copied latest uuid)
copy_has text (Plain other) uuid h = (uuid ∷ h.0, ap (λ t. copy_of t uuid) h.1)
copy_has text Deleted uuid h = absurd h

content_has : (text kind : Bytes) (latest : Content) (other_kind : Bytes) (body : Body) → is_content_of kind latest other_kind body ≡ true
    → IsDraftOf text latest → (kind ≡ other_kind) × IsVersionOf text body
content_has text kind (Plain mine) other_kind (Under other set) h k =
    let both = and_parts (bytes_eq kind other_kind) (bytes_eq mine other) h in
    (same_text kind other_kind both.0, subst (Copies text) (same_text mine other both.1) k)
content_has text kind (Plain mine) other_kind Gone h k = absurd (cc)
content_has text kind Deleted other_kind body h k = absurd k

last_has : (kind text uuid : Bytes) (versions : List Version) (d : Draft) (last : Option Version) → last_of uuid versions ≡ last → is_last d last ≡ true
    → d.kind ≡ kind → IsDraftOf text d.latest → One (HasText kind text (λ item. item ≡ uuid)) versions
last_has kind text uuid versions d None e h is k = absurd (cc)
last_has kind text uuid versions d (Some v) e h is k =
    let there = last_among uuid versions v e in
    let has = content_has text d.kind d.latest v.kind v.body h k in
    one_weaker (λ (w : Version). w ≡ v) (HasText kind text (λ item. item ≡ uuid))
    (λ w same. subst (HasText kind text (λ item. item ≡ uuid)) (sym same) (there.1, sym has.0 ∙ is, has.1)) versions there.0

-- a draft that is settled is a version
settled_has : (s : Ideal) (device uuid kind text : Bytes) (a : Option Account) (d : Option Draft) → account_of s device ≡ a → draft_at s device uuid ≡ d
    → may_settle a d uuid ≡ true → IsDrafted s device uuid kind text → IsAccepted s device kind text (λ item. item ≡ uuid)
settled_has s device uuid kind text None d e k may h = absurd (cc)
settled_has s device uuid kind text (Some a) None e k may h = absurd (cc)
settled_has s device uuid kind text (Some a) (Some d) e k may h =
    let same : h.draft ≡ d = one_there h.draft d (draft_at s device uuid) h.at k in
    record {
      account = a;
      has = e;
      version = last_has kind text uuid a.versions d (last_of uuid a.versions) refl may (sym (ap (λ (x : Draft). x.kind) same) ∙ h.kind_is) (subst (λ (x : Draft). IsDraftOf text x.latest) same h.content);
    }

-- a content doesn't give way
content_stays : (text : Bytes) (latest : Content) → not (is_plain latest) ≡ true → IsDraftOf text latest → ⊥
content_stays text (Plain other) e h = cc
content_stays text Deleted e h = h

no_way : (text : Bytes) (a : Option Account) (held : List ℕ) (found : Option Draft) (d : Draft) (uuid : Bytes) → found ≡ Some d
    → may_give_way a held found uuid ≡ true → IsDraftOf text d.latest → ⊥
no_way text None held found d uuid e may h = cc
no_way text (Some a) held None d uuid e may h = cc
no_way text (Some a) held (Some x) d uuid e may h =
    let same : x ≡ d = cc in
    content_stays text x.latest (and_parts (not (is_plain x.latest)) (meets_live held x (last_of uuid a.versions)) may).0
    (subst (λ (y : Draft). IsDraftOf text y.latest) (sym same) h)

-- one move

abbrev Becomes : Ideal → Move → Bytes → Bytes → Bytes → Bytes → Type 0
Becomes s m device uuid kind text =
    Replaces device uuid m
    ⊎ (IsDrafted (after s m) device (next_uuid device uuid m) kind text ⊎ IsAccepted (after s m) device kind text (λ item. item ≡ uuid))

as_it_was : (s next : Ideal) (device uuid kind text : Bytes) → draft_at next device uuid ≡ draft_at s device uuid → IsDrafted s device uuid kind text
    → IsDrafted next device uuid kind text
as_it_was s next device uuid kind text e h = record { draft = h.draft; at = e ∙ h.at; kind_is = h.kind_is; content = h.content }

step : (s : Ideal) (m : Move) (device uuid kind text : Bytes) → IsTrue (allows s m) → IsDrafted s device uuid kind text → Becomes s m device uuid kind text
step s (Register identifier set) device uuid kind text may h = inr (inl (as_it_was s (after s (Register identifier set)) device uuid kind text refl h))
step s (Join name identifier number) device uuid kind text may h = inr (inl (as_it_was s (after s (Join name identifier number)) device uuid kind text refl h))
step s (Edit name item type base latest) device uuid kind text may h =
    ⊎_elim (λ e. inl (same_draft device uuid name item e)) (λ d. inr (inl d))
    (stays_or_same s (Edit name item type base latest) device uuid name item kind text (Some (draft_edited name item type base latest (draft_at s name item)))
    (draft_after s (Edit name item type base latest) device uuid may) h)
step s (Drop name item) device uuid kind text may h =
    ⊎_elim (λ e. inl (same_draft device uuid name item e)) (λ d. inr (inl d))
    (stays_or_same s (Drop name item) device uuid name item kind text None (draft_after s (Drop name item) device uuid may) h)
step s (Post name item) device uuid kind text may h =
    inr (inl (stays_changed s (Post name item) device uuid kind text (is_of_draft device uuid name item)
    (posted_under (greatest 0 (held_by (device_named s name)))) (λ _. refl) (λ _. refl) (draft_after s (Post name item) device uuid may) h))
step s (Unpost name item) device uuid kind text may h =
    inr (inl (stays_changed s (Unpost name item) device uuid kind text (is_of_draft device uuid name item) unposted (λ _. refl) (λ _. refl)
    (draft_after s (Unpost name item) device uuid may) h))
step s (Accept name item stamp under) device uuid kind text may h =
    inr (inl (as_it_was s (after s (Accept name item stamp under)) device uuid kind text refl h))
step s (Rewrap item stamp under) device uuid kind text may h = inr (inl (as_it_was s (after s (Rewrap item stamp under)) device uuid kind text refl h))
step s (Settle name item) device uuid kind text may h =
    ⊎_elim (λ e. inr (inr (becomes e))) (λ d. inr (inl d))
    (stays_or_same s (Settle name item) device uuid name item kind text None (draft_after s (Settle name item) device uuid may) h)
  where
    becomes : is_of_draft device uuid name item ≡ true → IsAccepted (after s (Settle name item)) device kind text (λ i. i ≡ uuid)
    becomes e =
        let same = same_draft device uuid name item e in
        let there : may_settle (account_of s device) (draft_at s device uuid) uuid ≡ true =
        subst (λ n. may_settle (account_of s n) (draft_at s n uuid) uuid ≡ true) same.0
        (subst (λ i. may_settle (account_of s name) (draft_at s name i) i ≡ true) same.1 may) in
        let has : IsAccepted s device kind text (λ i. i ≡ uuid) =
        settled_has s device uuid kind text (account_of s device) (draft_at s device uuid) refl refl there h in
        record { account = has.account; has = has.has; version = has.version }
step s (SettlePosted name item stamp) device uuid kind text may h =
    inr (inl (stays_changed s (SettlePosted name item stamp) device uuid kind text (is_of_draft device uuid name item) (settled_at stamp) (λ _. refl) (λ _. refl)
    (draft_after s (SettlePosted name item stamp) device uuid may) h))
step s (Fork name item other) device uuid kind text may h =
    inr (inl (goes_on s (Fork name item other) device uuid name item other kind text (forked other)
    (λ dev u. draft_after s (Fork name item other) dev u may)
    (fork_free (account_of s name) (held_by (device_named s name)) (draft_at s name item) (draft_at s name other) item may)
    (λ d e. copy_has text d.latest d.uuid e) (λ d. refl) h))
step s (Rename name item other) device uuid kind text may h =
    inr (inl (goes_on s (Rename name item other) device uuid name item other kind text (renamed other)
    (λ dev u. draft_after s (Rename name item other) dev u may)
    (rename_free s.accounts (account_of s name) (draft_at s name item) (draft_at s name other) item may) (λ d e. e) (λ d. refl) h))
step s (GiveWay name item) device uuid kind text may h =
    ⊎_elim (λ e. absurd (never e)) (λ d. inr (inl d))
    (stays_or_same s (GiveWay name item) device uuid name item kind text None (draft_after s (GiveWay name item) device uuid may) h)
  where
    never : is_of_draft device uuid name item ≡ true → ⊥
    never e =
        let same = same_draft device uuid name item e in
        no_way text (account_of s name) (held_by (device_named s name)) (draft_at s name item) h.draft item
        (subst (λ n. draft_at s n item ≡ Some h.draft) (sym same.0) (subst (λ i. draft_at s device i ≡ Some h.draft) (sym same.1) h.at)) may h.content
step s (Change identifier number set) device uuid kind text may h = inr (inl (as_it_was s (after s (Change identifier number set)) device uuid kind text refl h))
step s (Retire name number) device uuid kind text may h = inr (inl (as_it_was s (after s (Retire name number)) device uuid kind text refl h))

-- all that follow

abbrev BecomesAll : Ideal → List Move → Bytes → Bytes → Bytes → Bytes → Type 0
BecomesAll s ms device uuid kind text =
    IsReplaced device uuid ms
    ⊎ (IsDrafted (end_from s ms) device (trail device uuid ms) kind text ⊎ IsAccepted (end_from s ms) device kind text (IsOnTrail device uuid ms))

first_on_trail : (device uuid : Bytes) (ms : List Move) → IsOnTrail device uuid ms uuid
first_on_trail device uuid [] = refl
first_on_trail device uuid (m ∷ ms) = inl refl

steps : (s : Ideal) (ms : List Move) (device uuid kind text : Bytes) → LegalFrom s ms → IsDrafted s device uuid kind text → BecomesAll s ms device uuid kind text
steps s [] device uuid kind text legal h = inr (inl h)
steps s (m ∷ ms) device uuid kind text legal h =
    ⊎_elim (λ e. inl (inl e))
    (λ rest. ⊎_elim
    (λ d. later (steps (after s m) ms device (next_uuid device uuid m) kind text legal.1 d))
    (λ a. inr (inr (accepted_weaker (end_from s (m ∷ ms)) device kind text (λ item. item ≡ uuid) (IsOnTrail device uuid (m ∷ ms)) (λ item e. inl e)
    (accepted_all (after s m) ms device kind text (λ item. item ≡ uuid) legal.1 a)))) rest)
    (step s m device uuid kind text legal.0 h)
  where
    later : BecomesAll (after s m) ms device (next_uuid device uuid m) kind text → BecomesAll s (m ∷ ms) device uuid kind text
    later k =
        ⊎_elim (λ e. inl (inr e))
        (λ rest. ⊎_elim (λ d. inr (inl d))
        (λ a. inr (inr (accepted_weaker (end_from s (m ∷ ms)) device kind text (IsOnTrail device (next_uuid device uuid m) ms) (IsOnTrail device uuid (m ∷ ms))
        (λ item e. inr e) a))) rest) k

-- the edit makes the draft

edited_has : (device uuid kind : Bytes) (base : Option ℕ) (text : Bytes) (found : Option Draft)
    → IsDraftOf text (draft_edited device uuid kind base (Plain text) found).latest
edited_has device uuid kind base text None = ([], refl)
edited_has device uuid kind base text (Some d) = ([], refl)

edited_kind : (a : Account) (device uuid kind : Bytes) (base : Option ℕ) (text : Bytes) (found : Option Draft) → may_write a found uuid kind base text ≡ true
    → (draft_edited device uuid kind base (Plain text) found).kind ≡ kind
edited_kind a device uuid kind base text None may = refl
edited_kind a device uuid kind base text (Some d) may =
    same_text d.kind kind
    (and_parts (bytes_eq d.kind kind) (same_base d.base base)
    (and_parts (is_as d kind base) (is_plain d.latest) (and_parts (is_as d kind base && is_plain d.latest) (is_writable text) may).0).0).0

edit_kind : (found : Option Account) (device uuid kind : Bytes) (base : Option ℕ) (text : Bytes) (draft : Option Draft)
    → may_edit found draft uuid kind base (Plain text) ≡ true → (draft_edited device uuid kind base (Plain text) draft).kind ≡ kind
edit_kind None device uuid kind base text draft may = absurd (cc)
edit_kind (Some a) device uuid kind base text draft may = edited_kind a device uuid kind base text draft may

edited_drafted : (s : Ideal) (device uuid kind : Bytes) (base : Option ℕ) (text : Bytes) → IsTrue (allows s (Edit device uuid kind base (Plain text)))
    → IsDrafted (after s (Edit device uuid kind base (Plain text))) device uuid kind text
edited_drafted s device uuid kind base text may =
    let new : Draft = draft_edited device uuid kind base (Plain text) (draft_at s device uuid) in
    record {
      draft = new;
      at = draft_after s (Edit device uuid kind base (Plain text)) device uuid may
          ∙ ap (λ b. if b then Some new else draft_at s device uuid) (draft_same device uuid device uuid refl refl);
      kind_is = edit_kind (account_of s device) device uuid kind base text (draft_at s device uuid) may;
      content = edited_has device uuid kind base text (draft_at s device uuid);
    }

pub edits_stay : EditsKept
edits_stay before later device uuid kind base text legal =
    let edit : Move = Edit device uuid kind base (Plain text) in
    let rest : LegalFrom (end before) (edit ∷ later) = legal_after empty before (edit ∷ later) legal in
    subst (λ (s : Ideal). IsKept s device uuid kind text later)
    (sym (end_from-append empty before (edit ∷ later)))
    (steps (after (end before) edit) later device uuid kind text rest.1 (edited_drafted (end before) device uuid kind base text rest.0))

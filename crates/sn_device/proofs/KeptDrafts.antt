-- A draft that is carried on over several commits, whichever sets are held meanwhile.
use Rattle.std.proofs.Common.{◌≡◌, ◌⊎◌, ◌≤◌, ℕ, true, false, List, [], ◌∷◌, ◌++◌, Bool, Option, Some, refl, sym, ap, ◌∙◌, subst, inl, inr}
use Rattle.rand_chacha.specs.ChaCha.{ChaCha}
use Rattle.sn_items.specs.Items.{OpensItem}
use Rattle.sn_items.specs.declared.sealed.Sealed.{Sealed}
use Rattle.sn_notes.specs.Copies.{copy_of}
use Rattle.sn_rekey.specs.Rekeying.{RewrapsPlace}
use Rattle.sn_rekey.specs.Rewraps.{Rewraps, RewrapsHeld}
use Rattle.sn_rows.specs.declared.body.RowBody.{RowBody}
use Rattle.sn_rows.specs.declared.body.RowBody.TheVariants as row
use Rattle.sn_rows.specs.declared.body.RowStrings.{RowStrings}
use Rattle.sn_rows.specs.declared.device_rows.LocalItem.{LocalItem}
use Rattle.sn_sets.proofs.Facts.{one_held}
use Rattle.sn_sets.specs.Seals.{Seals}
use Rattle.sn_sets.specs.Sets.{OpensHeld, sealed_of}
use Rattle.sn_sets.specs.declared.sets.Sets.{Sets}
use Rattle.sn_string.specs.declared.params.KeySet.{KeySet}
use Rattle.sn_device.specs.Laws.{GoesOnAs, GoesOnUnder, IsSealedAgain, IsSealedUnder, IsStillOf, copied}
use Rattle.sn_device.specs.States.{Bytes, OpensVersion}
use Rattle.sn_device.proofs.AdoptRows.{IsAdopted}
use Rattle.sn_device.proofs.Followed.{Carries, place_of}
use Rattle.sn_device.proofs.KeptSets.{IsLater, later_then, opens_before}

pub opens_under : (set : KeySet) (uuid content : Bytes) (strings : RowStrings) → IsSealedUnder set uuid content strings
    → OpensItem (sealed_of strings) uuid set content
opens_under set uuid content strings (inl (before, left, seals)) = seals.opens
opens_under set uuid content strings (inr (before, left, other, given, rewraps)) = rewraps.still

-- sealed again under a set, whichever set that is held it opened under
rewrapped_opens : (held : Sets) (set : KeySet) (words : ChaCha) (uuid : Bytes) (given again : Sealed) (left : ChaCha)
    → RewrapsHeld held set words uuid given again left
    → (text : Bytes) × OpensHeld held uuid given text × (other : KeySet) × Rewraps words uuid text other set given again left
rewrapped_opens held set words uuid given again left (inl x) = (x.text, inl x.opens, held.present, x.rewraps)
rewrapped_opens held set words uuid given again left (inr x) = (x.text, inr x.opens, x.opens.set, x.rewraps)

-- ---- a draft at an adoption

-- a deletion stays one; a sealed draft is sealed again
pub record SealedAnew (held : Sets) (set : KeySet) (uuid : Bytes) (again last : RowBody) : Type 0 where
  pub given : RowStrings
  pub given_is : again ≡ row.Sealed given
  pub anew : RowStrings
  pub anew_is : last ≡ row.Sealed anew
  pub text : Bytes
  pub opened : OpensHeld held uuid (sealed_of given) text
  pub under : IsSealedUnder set uuid text anew

abbrev pub AnewOrGone : Sets → KeySet → Bytes → RowBody → RowBody → Type 0
AnewOrGone held set uuid again last = ((again ≡ row.Deleted) × (last ≡ row.Deleted)) ⊎ SealedAnew held set uuid again last

closed_draft : (held : Sets) (set : KeySet) (uuid : Bytes) (words left : ChaCha) (again : RowBody) (after : Option RowBody)
    → RewrapsPlace held set words uuid false (Some again) after left → OpensVersion held.present uuid (Some again)
    → (last : RowBody) × (after ≡ Some last) × AnewOrGone held set uuid again last
closed_draft held set uuid words left row.Deleted after stays opens = (row.Deleted, stays.same, inl (refl, refl))
closed_draft held set uuid words left (row.Sealed strings) after stays (text, opens) = absurd (stays.closed text (inl opens))

sealed_draft : (held : Sets) (set : KeySet) (uuid : Bytes) (words left : ChaCha) (again : RowBody) (after : Option RowBody)
    → RewrapsPlace held set words uuid true (Some again) after left → (last : RowBody) × (after ≡ Some last) × AnewOrGone held set uuid again last
sealed_draft held set uuid words left again after x =
    let given_is = x.given_is in
    let is : again ≡ row.Sealed x.given = cc in
    let (text, opened, other, rewraps) = rewrapped_opens held set words uuid (sealed_of x.given) (sealed_of x.again) left x.rewraps in (
      row.Sealed x.again,
      x.again_is,
      inr (record {
        given = x.given;
        given_is = is;
        anew = x.again;
        anew_is = refl;
        text = text;
        opened = opened;
        under = inr (words, left, other, x.given, rewraps);
      }),
    )

anew_draft : (held : Sets) (set : KeySet) (uuid : Bytes) (flag : Bool) (words left : ChaCha) (again : RowBody) (after : Option RowBody)
    → RewrapsPlace held set words uuid flag (Some again) after left → OpensVersion held.present uuid (Some again)
    → (last : RowBody) × (after ≡ Some last) × AnewOrGone held set uuid again last
anew_draft held set uuid true words left again after x opens = sealed_draft held set uuid words left again after x
anew_draft held set uuid false words left again after x opens = closed_draft held set uuid words left again after x opens

pub adopted_draft : (held : Sets) (set : KeySet) (local now : LocalItem) (again : RowBody) → IsAdopted held set local now → local.latest ≡ Some again
    → OpensVersion held.present local.uuid local.latest → (last : RowBody) × (now.latest ≡ Some last) × AnewOrGone held set local.uuid again last
adopted_draft held set local now again a drafted opens =
    let r = a.rekeys in
    anew_draft held set local.uuid r.latest_again r.second r.third again now.latest
    (subst (λ (o : Option RowBody). RewrapsPlace held set r.second local.uuid r.latest_again o now.latest r.third) drafted r.latest_is)
    (subst (λ (o : Option RowBody). OpensVersion held.present local.uuid o) drafted opens)

-- ---- one carries on what another carried on

copied_then : (text : Bytes) (xs ys : List Bytes) → copied (copied text xs) ys ≡ copied text (xs ++ ys)
copied_then text [] ys = refl
copied_then text (x ∷ xs) ys = copied_then (copy_of text x) xs ys

module _ (sets : Sets) (next number : ℕ) (was : LocalItem) (latest : RowBody) where
  -- the draft, or one that it has become, while these sets are held: it is still the same only where no set was adopted meanwhile, or it is a deletion
  abbrev pub GoesUnder : KeySet → ℕ → LocalItem → RowBody → Type 0
  GoesUnder present at local again = IsSealedAgain sets present number was latest at local again ⊎ GoesOnUnder sets present next number was latest at local again

  abbrev pub IsStill : Sets → ℕ → LocalItem → RowBody → Type 0
  IsStill held at local again = IsStillOf number was latest at local again × (IsLater sets held ⊎ (latest ≡ row.Deleted))

  abbrev pub CarriesIn : Sets → ℕ → LocalItem → RowBody → Type 0
  CarriesIn held at local again = IsStill held at local again ⊎ GoesUnder held.present at local again

  -- a deletion goes on as nothing else
  pub not_deleted : (held : Sets) (at : ℕ) (local : LocalItem) (again : RowBody) → CarriesIn held at local again → again ≡ row.Deleted → latest ≡ row.Deleted
  not_deleted held at local again (inl (s, so)) gone = sym s.draft_is ∙ gone
  not_deleted held at local again (inr (inl g)) gone = let is = g.is_sealed in absurd cc
  not_deleted held at local again (inr (inr g)) gone = let is = g.is_sealed in absurd cc

  -- sealed again, it goes on as that of its own item
  as_goes : (present : KeySet) (at : ℕ) (local : LocalItem) (again : RowBody) → GoesUnder present at local again
      → GoesOnUnder sets present next number was latest at local again
  as_goes present at local again (inl g) = record {
    place = inl g.number_is;
    kind_is = g.kind_is;
    strings = g.strings;
    was_sealed = g.was_sealed;
    text = g.text;
    opened = g.opened;
    copies = [];
    anew = g.anew;
    is_sealed = g.is_sealed;
    under = g.under;
  }
  as_goes present at local again (inr g) = g

  -- ---- the row has other columns, or other sets are held

  moved_still : (at : ℕ) (local now : LocalItem) (again : RowBody) → now.uuid ≡ local.uuid → now.kind ≡ local.kind
      → IsStillOf number was latest at local again → IsStillOf number was latest at now again
  moved_still at local now again named kind s =
      record { number_is = s.number_is; uuid_is = named ∙ s.uuid_is; kind_is = kind ∙ s.kind_is; draft_is = s.draft_is }

  moved_under : (present after : KeySet) (uuid other content : Bytes) (strings : RowStrings) → after ≡ present → other ≡ uuid
      → IsSealedUnder present uuid content strings → IsSealedUnder after other content strings
  moved_under present after uuid other content strings same named is =
      subst (λ (s : KeySet). IsSealedUnder s other content strings) (sym same)
      (subst (λ (u : Bytes). IsSealedUnder present u content strings) (sym named) is)

  moved_goes : (present after : KeySet) (at : ℕ) (local now : LocalItem) (again : RowBody) → after ≡ present → now.uuid ≡ local.uuid → now.kind ≡ local.kind
      → GoesUnder present at local again → GoesUnder after at now again
  moved_goes present after at local now again same named kind (inl g) = inl (record {
    number_is = g.number_is;
    uuid_is = named ∙ g.uuid_is;
    kind_is = kind ∙ g.kind_is;
    strings = g.strings;
    was_sealed = g.was_sealed;
    text = g.text;
    opened = g.opened;
    anew = g.anew;
    is_sealed = g.is_sealed;
    under = moved_under present after local.uuid now.uuid g.text g.anew same named g.under;
  })
  moved_goes present after at local now again same named kind (inr g) = inr (record {
    place = g.place;
    kind_is = kind ∙ g.kind_is;
    strings = g.strings;
    was_sealed = g.was_sealed;
    text = g.text;
    opened = g.opened;
    copies = g.copies;
    anew = g.anew;
    is_sealed = g.is_sealed;
    under = moved_under present after local.uuid now.uuid (copied g.text g.copies) g.anew same named g.under;
  })

  pub moved : (held after : Sets) (at : ℕ) (local now : LocalItem) (again : RowBody) → IsLater held after → now.uuid ≡ local.uuid → now.kind ≡ local.kind
      → CarriesIn held at local again → CarriesIn after at now again
  moved held after at local now again later named kind (inl (s, inl so)) =
      inl (moved_still at local now again named kind s, inl (later_then sets held after so later))
  moved held after at local now again later named kind (inl (s, inr gone)) = inl (moved_still at local now again named kind s, inr gone)
  moved held after at local now again later named kind (inr g) =
      inr (moved_goes held.present after.present at local now again later.present_is named kind g)

  -- ---- behind an answer

  module _ (held : Sets) (over at : ℕ) (local : LocalItem) (again : RowBody) (grown : next ≤ over) where
    -- it goes on where its content, as it has gone on until now, is this text
    further : (end : ℕ) (now : LocalItem) (last : RowBody) (h : GoesOnAs held over at local again end now last) (strings : RowStrings) (text : Bytes)
        (copies : List Bytes) → ((at ≡ number) ⊎ (next ≤ at)) → latest ≡ row.Sealed strings → OpensHeld sets was.uuid (sealed_of strings) text
        → local.kind ≡ was.kind → h.text ≡ copied text copies → GoesOnUnder sets held.present next number was latest end now last
    further end now last h strings text copies place sealed opened kind is = record {
      place = place_of next number at over end place h.place grown;
      kind_is = h.kind_is ∙ kind;
      strings = strings;
      was_sealed = sealed;
      text = text;
      opened = opened;
      copies = copies ++ h.copies;
      anew = h.anew;
      is_sealed = h.is_sealed;
      under = inl (
        h.before,
        h.left,
        subst (λ (x : Bytes). Seals h.before held.present now.uuid x h.anew h.left)
            (ap (λ (x : Bytes). copied x h.copies) is ∙ copied_then text copies h.copies) h.seals,
      );
    }

    behind_goes : (end : ℕ) (now : LocalItem) (last : RowBody) → GoesOnUnder sets held.present next number was latest at local again
        → GoesOnAs held over at local again end now last → GoesOnUnder sets held.present next number was latest end now last
    behind_goes end now last g h =
        let both : row.Sealed h.strings ≡ row.Sealed g.anew = sym h.was_sealed ∙ g.is_sealed in
        let same : h.strings ≡ g.anew = cc in
        let opens : OpensItem (sealed_of g.anew) local.uuid held.present (copied g.text g.copies) =
        opens_under held.present local.uuid (copied g.text g.copies) g.anew g.under in
        let held_opens : OpensHeld held local.uuid (sealed_of h.strings) (copied g.text g.copies) =
        subst (λ (x : RowStrings). OpensHeld held local.uuid (sealed_of x) (copied g.text g.copies)) (sym same) (inl opens) in
        further end now last h g.strings g.text g.copies g.place g.was_sealed g.opened g.kind_is
        (one_held held local.uuid (sealed_of h.strings) h.text (copied g.text g.copies) h.opened held_opens)

    -- an answer leaves it as it is, or it goes on
    pub carry_on : (end : ℕ) (now : LocalItem) (last : RowBody) → CarriesIn held at local again → Carries held over at local again end now last
        → CarriesIn held end now last
    carry_on end now last (inl (s, so)) (inl t) = inl (
      record {
        number_is = t.number_is ∙ s.number_is;
        uuid_is = t.uuid_is ∙ s.uuid_is;
        kind_is = t.kind_is ∙ s.kind_is;
        draft_is = t.draft_is ∙ s.draft_is;
      },
      so,
    )
    carry_on end now last (inl (s, inl later)) (inr h) =
        let opened : OpensHeld sets was.uuid (sealed_of h.strings) h.text =
        opens_before sets held was.uuid (sealed_of h.strings) h.text later
        (subst (λ (u : Bytes). OpensHeld held u (sealed_of h.strings) h.text) s.uuid_is h.opened) in
        inr (inr (further end now last h h.strings h.text [] (inl s.number_is) (sym s.draft_is ∙ h.was_sealed) opened s.kind_is refl))
    carry_on end now last (inl (s, inr gone)) (inr h) =
        absurd (let is : again ≡ row.Deleted = s.draft_is ∙ gone in let was_sealed = h.was_sealed in cc)
    carry_on end now last (inr g) (inl t) =
        let here : GoesUnder held.present at now again = moved_goes held.present held.present at local now again refl t.uuid_is t.kind_is g in
        let same : GoesUnder held.present at now last = subst (λ (b : RowBody). GoesUnder held.present at now b) (sym t.draft_is) here in
        inr (subst (λ (n : ℕ). GoesUnder held.present n now last) (sym t.number_is) same)
    carry_on end now last (inr g) (inr h) = inr (inr (behind_goes end now last (as_goes held.present at local again g) h))

  -- ---- behind an adoption

  module _ (held after : Sets) (at : ℕ) (local now : LocalItem) (again last : RowBody) (named : now.uuid ≡ local.uuid) (kind : now.kind ≡ local.kind) where
    -- what was sealed under the present set has the content that it is sealed again with
    same_text : (strings : RowStrings) (content : Bytes) (x : SealedAnew held after.present local.uuid again last) → again ≡ row.Sealed strings
        → IsSealedUnder held.present local.uuid content strings → x.text ≡ content
    same_text strings content x is under =
        let both : row.Sealed x.given ≡ row.Sealed strings = sym x.given_is ∙ is in
        let same : x.given ≡ strings = cc in
        let opens : OpensHeld held local.uuid (sealed_of x.given) content =
        subst (λ (s : RowStrings). OpensHeld held local.uuid (sealed_of s) content) (sym same) (inl (opens_under held.present local.uuid content strings under)) in
        one_held held local.uuid (sealed_of x.given) x.text content x.opened opens

    now_under : (x : SealedAnew held after.present local.uuid again last) (content : Bytes) → x.text ≡ content
        → IsSealedUnder after.present now.uuid content x.anew
    now_under x content is =
        moved_under after.present after.present local.uuid now.uuid content x.anew refl named
        (subst (λ (t : Bytes). IsSealedUnder after.present local.uuid t x.anew) is x.under)

    sealed_anew : CarriesIn held at local again → SealedAnew held after.present local.uuid again last → GoesUnder after.present at now last
    sealed_anew (inl (s, inl later)) x =
        let opened : OpensHeld sets was.uuid (sealed_of x.given) x.text =
        opens_before sets held was.uuid (sealed_of x.given) x.text later
        (subst (λ (u : Bytes). OpensHeld held u (sealed_of x.given) x.text) s.uuid_is x.opened) in
        inl (record {
          number_is = s.number_is;
          uuid_is = named ∙ s.uuid_is;
          kind_is = kind ∙ s.kind_is;
          strings = x.given;
          was_sealed = sym s.draft_is ∙ x.given_is;
          text = x.text;
          opened = opened;
          anew = x.anew;
          is_sealed = x.anew_is;
          under = now_under x x.text refl;
        })
    sealed_anew (inl (s, inr gone)) x = absurd (let is : again ≡ row.Deleted = s.draft_is ∙ gone in let given_is = x.given_is in cc)
    sealed_anew (inr (inl g)) x = inl (record {
      number_is = g.number_is;
      uuid_is = named ∙ g.uuid_is;
      kind_is = kind ∙ g.kind_is;
      strings = g.strings;
      was_sealed = g.was_sealed;
      text = g.text;
      opened = g.opened;
      anew = x.anew;
      is_sealed = x.anew_is;
      under = now_under x g.text (same_text g.anew g.text x g.is_sealed g.under);
    })
    sealed_anew (inr (inr g)) x = inr (record {
      place = g.place;
      kind_is = kind ∙ g.kind_is;
      strings = g.strings;
      was_sealed = g.was_sealed;
      text = g.text;
      opened = g.opened;
      copies = g.copies;
      anew = x.anew;
      is_sealed = x.anew_is;
      under = now_under x (copied g.text g.copies) (same_text g.anew (copied g.text g.copies) x g.is_sealed g.under);
    })

    pub anew_carries : CarriesIn held at local again → AnewOrGone held after.present local.uuid again last → CarriesIn after at now last
    anew_carries (inl (s, so)) (inl (gone, too)) = inl (
      record {
        number_is = s.number_is;
        uuid_is = named ∙ s.uuid_is;
        kind_is = kind ∙ s.kind_is;
        draft_is = too ∙ sym gone ∙ s.draft_is;
      },
      inr (sym s.draft_is ∙ gone),
    )
    anew_carries (inr (inl g)) (inl (gone, too)) = absurd (let is = g.is_sealed in cc)
    anew_carries (inr (inr g)) (inl (gone, too)) = absurd (let is = g.is_sealed in cc)
    anew_carries carries (inr x) = inr (sealed_anew carries x)

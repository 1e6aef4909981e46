-- How the user's changes are prepared.
use Rattle.std.specs.Prelude.{◌≡◌, ◌≢◌, ◌⊎◌, ◌+◌, ℕ, suc, List, [], ◌∷◌, Some}
use Rattle.std.proofs.Common.{arith, inl, inr, refl, sym, ap, subst, ◌∙◌}
use Rattle.rand_chacha.specs.ChaCha.{ChaCha}
use Rattle.sn_rows.specs.Table.{Removes, Rows}
use Rattle.sn_rows.specs.declared.body.RowBody.TheVariants as row
use Rattle.sn_rows.specs.declared.body.RowStrings.{RowStrings}
use Rattle.sn_rows.specs.declared.change.Change.{Change}
use Rattle.sn_rows.specs.declared.device_rows.LocalItem.{LocalItem}
use Rattle.sn_rows.specs.declared.device_rows.OwnerRow.{OwnerRow}
use Rattle.sn_rows.specs.declared.key.Key.TheVariants as key
use Rattle.sn_rows.specs.declared.value.Value.TheVariants as value
use Rattle.sn_sets.specs.declared.sets.Sets.{Sets}
use Rattle.sn_drafts.specs.Making.{DrawsNone, PutsBoth, PutsDraft, RefusesEdit}
use Rattle.sn_drafts.specs.Refusing.{MayRefuse, Prepares, none_more}
use Rattle.sn_sets.specs.Seals.{Seals}
use Rattle.sn_device.specs.Draws.{DrawsFresh}
use Rattle.sn_device.specs.Listing.{IsDeleted, Shows}
use Rattle.sn_device.specs.Runs.{Act, CommitsOnce, Halt, IsGone, PutsItem, RunsDelete, RunsEdit, RunsPut, WithContent, WithItem, a_uuid, nothing, refused}
use Rattle.sn_device.specs.Sending.{PutsColumns}
use Rattle.sn_device.specs.States.{Bytes, HasItem, HasOwner, HasSets, IsFree, columns, owner_columns}
use Rattle.sn_device.specs.Steps.{Deletes, Edits, IsContent, IsUnknown, PutsNew, PutsOwner, deletes, drafted, edits, puts, with_next}
use Rattle.sn_device.specs.Taking.{last_number}
use Rattle.sn_device.specs.declared.error.ClientError.{ClientError}
use Rattle.sn_device.specs.declared.error.ClientError.TheVariants as refusal
use Rattle.sn_drafts.proofs.LookLemmas.{RefusesShown, of_account, of_closed, of_content, of_gone, of_shown}

-- ---- a put

pub same_owner : (rows : Rows) (a b : OwnerRow) → HasOwner rows a → HasOwner rows b → a ≡ b
same_owner rows a b has too = let e : Some (value.Owner a) ≡ Some (value.Owner b) = sym has ∙ too in cc

-- the account's sets, with its row as it was found
pub sets_with : (rows : Rows) (a b : OwnerRow) (sets : Sets) → HasSets rows a sets → HasOwner rows b → HasSets rows b sets
sets_with rows a b sets holds has = subst (λ (o : OwnerRow). HasSets rows o sets) (same_owner rows a b holds.owned has) holds

module _ (rows : Rows) (words : ChaCha) (kind text : Bytes) (owner : OwnerRow) (sets : Sets) (holds : HasSets rows owner sets) where
  -- the content isn't taken
  pub put_content : (why : ClientError) → MayRefuse (WithContent text none_more) why → MayRefuse (RunsPut kind text rows words) why
  put_content why may =
      of_account rows (λ o s. WithContent text (PutsItem rows words o kind text)) owner sets why holds (of_content text (PutsItem rows words owner kind text) why may)

  -- the item can't be put
  pub put_item : (why : ClientError) → IsContent text → PutsItem rows words owner kind text [] (refused why) → MayRefuse (RunsPut kind text rows words) why
  put_item why content p = inr (inr (owner, sets, holds, inr (content.0, inr (content.1, p))))

  pub put_full : (next : ℕ) → IsContent text → owner.next ≡ next → next ≡ last_number → MayRefuse (RunsPut kind text rows words) (refusal.NumbersUsed next)
  put_full next content is full =
      put_item (refusal.NumbersUsed next) content (inl (is ∙ full, (refl, ap (λ (n : ℕ). refused (refusal.NumbersUsed n)) (sym is))))

  pub put_drawn : (why : ClientError) → IsContent text → owner.next ≢ last_number → DrawsNone rows words why → MayRefuse (RunsPut kind text rows words) why
  put_drawn why content room (drawn, none, is) =
      put_item why content (inr (room, inl (drawn, none, (refl, ap (λ (e : ClientError). refused e) is))))

  pub put_made : (uuid : Bytes) (rest left : ChaCha) (strings : RowStrings) (changes : List Change) → IsContent text → owner.next ≢ last_number
      → DrawsFresh rows words uuid rest → Seals rest sets.present uuid text strings left → PutsBoth owner uuid kind strings changes
      → PutsNew rows words uuid kind text changes left
  put_made uuid rest left strings changes content room fresh seals both = record {
    content = content;
    owner = owner;
    sets = sets;
    holds = holds;
    room = room;
    rest = rest;
    fresh = fresh;
    strings = strings;
    seals = seals;
    item = both.item;
    item_is = both.item_is;
    counted = both.counted;
    counted_is = subst (λ (n : ℕ). PutsOwner both.counted (with_next n (owner_columns owner)))
        (let next : owner.next + 1 ≡ suc owner.next = omega arith in next) both.counted_is;
    changes_are = both.changes_are;
  }

pub put_runs : (kind text : Bytes) (rows : Rows) (words left : ChaCha) (uuid : Bytes) (changes : List Change) → PutsNew rows words uuid kind text changes left
    → Prepares (RunsPut kind text rows words) (puts uuid kind text) changes (a_uuid uuid) left
put_runs kind text rows words left uuid changes p = λ acts halt ends.
    inr (p.owner, p.sets, p.holds, inr (p.content.0, inr (p.content.1, inr (p.room, inr (uuid, (changes, left, p, ends))))))

-- ---- an edit

module _ (rows : Rows) (words : ChaCha) (uuid text : Bytes) (owner : OwnerRow) (sets : Sets) (holds : HasSets rows owner sets) where
  -- behind the account
  abbrev EditsItem : List Act → Halt → Type 0
  EditsItem = WithItem rows sets uuid (λ shown. WithContent text (CommitsOnce rows words (edits uuid text) nothing))

  of_holds : (why : ClientError) → MayRefuse EditsItem why → MayRefuse (RunsEdit uuid text rows words) why
  of_holds why may = of_account rows (λ o s. WithItem rows s uuid (λ shown. WithContent text (CommitsOnce rows words (edits uuid text) nothing))) owner sets why holds may

  pub edit_gone : (why : ClientError) → IsGone rows uuid × (why ≡ refusal.NoItem uuid) → MayRefuse (RunsEdit uuid text rows words) why
  edit_gone why gone = of_holds why (of_gone rows sets uuid (λ shown. WithContent text (CommitsOnce rows words (edits uuid text) nothing)) why gone)

  module _ (number : ℕ) (local : LocalItem) (has : HasItem rows uuid number local) (stands : ¬ (IsDeleted local)) where
    edit_closed : (why : ClientError) → RefusesShown sets local why → MayRefuse (RunsEdit uuid text rows words) why
    edit_closed why refuses =
        of_holds why (of_closed rows sets uuid (λ shown. WithContent text (CommitsOnce rows words (edits uuid text) nothing)) number local why has stands refuses)

    edit_content : (shown : Bytes) (why : ClientError) → Shows sets local shown → MayRefuse (WithContent text none_more) why → MayRefuse (RunsEdit uuid text rows words) why
    edit_content shown why shows may =
        of_holds why (of_shown rows sets uuid (λ s. WithContent text (CommitsOnce rows words (edits uuid text) nothing)) number local shown why has stands shows
        (of_content text (CommitsOnce rows words (edits uuid text) nothing) why may))

    pub edit_refused : (why : ClientError) → RefusesEdit sets local text why → MayRefuse (RunsEdit uuid text rows words) why
    edit_refused why (inl refuses) = edit_closed why refuses
    edit_refused why (inr (shown, shows, may)) = edit_content shown why shows may

    pub edit_made : (left : ChaCha) (strings : RowStrings) (changes : List Change) → IsContent text → Seals words sets.present local.uuid text strings left
        → PutsDraft number local strings changes → Edits rows words uuid text changes left
    edit_made left strings changes content seals draft = record {
      content = content;
      owner = owner;
      sets = sets;
      holds = holds;
      number = number;
      local = local;
      stands = has;
      undeleted = stands;
      strings = strings;
      seals = subst (λ (u : Bytes). Seals words sets.present u text strings left) has.1 seals;
      change = draft.change;
      change_is = draft.change_is;
      changes_are = draft.changes_are;
    }

    pub edit_runs : (left : ChaCha) (changes : List Change) (shown : Bytes) → Shows sets local shown → Edits rows words uuid text changes left
        → Prepares (RunsEdit uuid text rows words) (edits uuid text) changes nothing left
    edit_runs left changes shown shows e = λ acts halt ends.
        inr (owner, sets, holds, inr (number, local, has, stands, inr (shown, shows, inr (e.content.0, inr (e.content.1, (changes, left, e, ends))))))

-- ---- a deletion

module _ (rows : Rows) (uuid : Bytes) (owner : OwnerRow) (sets : Sets) (holds : HasSets rows owner sets) where
  pub delete_free : (words : ChaCha) → IsFree rows uuid → MayRefuse (RunsDelete uuid rows words) (refusal.NoItem uuid)
  delete_free words free = inr (inr (owner, sets, holds, inl (free, (refl, refl))))

  pub delete_runs : (words : ChaCha) (changes : List Change) → Deletes rows uuid changes → Prepares (RunsDelete uuid rows words) (deletes uuid) changes nothing words
  delete_runs words changes d = λ acts halt ends. inr (owner, sets, holds, inr ((d.number, d.local, d.stands), (changes, words, (d, refl), ends)))

pub delete_made : (rows : Rows) (uuid : Bytes) (number : ℕ) (local : LocalItem) (change : Change) (changes : List Change) → HasItem rows uuid number local
    → (IsUnknown local × Removes change (key.Local number)) ⊎ (¬ (IsUnknown local) × PutsColumns change number (drafted (Some row.Deleted) (columns local)))
    → changes ≡ change ∷ [] → Deletes rows uuid changes
delete_made rows uuid number local change changes has is are = record {
  number = number;
  local = local;
  stands = has;
  change = change;
  change_is = is;
  changes_are = are;
}

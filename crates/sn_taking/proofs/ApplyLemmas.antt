-- The commit that applies an answer.
use Rattle.std.proofs.Common.{arith, ◌≡◌, ◌∙◌, List, [], ◌∷◌, ◌++◌, Option, IfNone, IfSome, refl, sym, ap, subst, get_or, take, append_assoc}
use Rattle.std.specs.List.{All}
use Rattle.std.proofs.lemmas.List.Elements.{All-append, All-cons, All-nil}
use Rattle.std.proofs.lemmas.Option.{slice_get-get_or}
use Rattle.rand_chacha.specs.ChaCha.{ChaCha}
use Rattle.sn_conflict.specs.Checks.{HasItsStrings, IsConflict, IsRetrieved, IsSaved, Passes}
use Rattle.sn_conflict.specs.Lists.{AllRight}
use Rattle.sn_journal.specs.declared.owner.Owner.TheVariants.{Device}
use Rattle.sn_rows.specs.Table.{Rows, rows_after}
use Rattle.sn_rows.specs.declared.change.Change.{Change}
use Rattle.sn_rows.specs.declared.device_rows.OwnerRow.{OwnerRow}
use Rattle.sn_rows.specs.declared.key.Key.TheVariants as key
use Rattle.sn_sets.specs.declared.sets.Sets.{Sets}
use Rattle.sn_sync.specs.Fits.{FitsConflict, FitsStored}
use Rattle.sn_sync.specs.Versions.{item_of}
use Rattle.sn_sync.specs.declared.answer.Conflict.{Conflict}
use Rattle.sn_sync.specs.declared.answer.Conflict.TheVariants as conflict
use Rattle.sn_sync.specs.declared.item.Item.{Item}
use Rattle.sn_table.specs.Batches.{IsOf}
use Rattle.sn_device.specs.Sending.{AreOfRows}
use Rattle.sn_device.specs.States.{Bytes, HasSets, owner_columns}
use Rattle.sn_device.specs.Steps.{Applies, PutsOwner, Retires, start, with_tokens}
use Rattle.sn_taking.specs.Taken.{HasVersion, IsVersion, option_list, so_far}
use Rattle.sn_device.specs.Taking.{TakesAll, told_by}
use Rattle.sn_taking.specs.declared.taken.Taken.{Taken}
use Rattle.sn_device.proofs.Facts.{items_of_device, one_of_device, IsOfItems, lead_all}
use Rattle.sn_taking.proofs.RetireLemmas.{retired_owned, retires_found}

-- ---- versions that were read and checked

pub versions_of : (Right : List Item → Item → Type 0) (xs : List Item) → ((before : List Item) (x : Item) → Right before x → HasItsStrings x)
    → AllRight Right xs → All FitsStored xs → All IsVersion xs
versions_of Right xs strings right fits = λ k d less. record {
  stored = fits k d less;
  strings = strings (take k xs) (get_or xs k d) (right k (get_or xs k d) less (slice_get-get_or xs k d less));
}

has_version : (c : Conflict) → FitsConflict c → HasItsStrings (item_of c) → HasVersion c
has_version (conflict.Sync server) fits strings = record { stored = fits; strings = strings }
has_version (conflict.Uuid unsaved) fits strings = tt
has_version (conflict.Content unsaved) fits strings = tt

pub have_versions : (sent saved : List Item) (conflicts : List Conflict) → AllRight (IsConflict sent saved) conflicts → All FitsConflict conflicts
    → All HasVersion conflicts
have_versions sent saved conflicts right fits = λ k d less.
    has_version (get_or conflicts k d) (fits k d less) (right k (get_or conflicts k d) less (slice_get-get_or conflicts k d less)).strings

pub saved_versions : (sent saved : List Item) (conflicts : List Conflict) (retrieved : List Item) (cursor : Option Bytes)
    → Passes sent saved conflicts retrieved cursor → All FitsStored saved → All IsVersion saved
saved_versions sent saved conflicts retrieved cursor passes fits =
    versions_of (IsSaved sent) saved (λ before x is. is.strings) passes.lists.named.saved_are fits

pub conflict_versions : (sent saved : List Item) (conflicts : List Conflict) (retrieved : List Item) (cursor : Option Bytes)
    → Passes sent saved conflicts retrieved cursor → All FitsConflict conflicts → All HasVersion conflicts
conflict_versions sent saved conflicts retrieved cursor passes fits = have_versions sent saved conflicts passes.lists.named.conflicts_are fits

pub retrieved_versions : (sent saved : List Item) (conflicts : List Conflict) (retrieved : List Item) (cursor : Option Bytes)
    → Passes sent saved conflicts retrieved cursor → All FitsStored retrieved → All IsVersion retrieved
retrieved_versions sent saved conflicts retrieved cursor passes fits =
    versions_of IsRetrieved retrieved (λ before x is. is.strings) passes.lists.retrieved_are fits

-- ---- the whole commit

-- one change more, and then one if there is one
pub and_more : (first second third : List Change) (change : Change) (gone : Option Change) → second ≡ first ++ change ∷ []
    → third ≡ second ++ option_list gone → third ≡ first ++ change ∷ option_list gone
and_more first second third change gone one more =
    more ∙ ap (λ (cs : List Change). cs ++ option_list gone) one ∙ append_assoc first (change ∷ []) (option_list gone)

-- the older set is retired behind the changes that are told
abbrev pub FindsRetired : Rows → Option Bytes → Sets → Taken → List Change → Option Change → Type 0
FindsRetired rows cursor sets taken told gone = (told ≡ taken.changes)
    × IfSome gone (λ change. Retires (rows_after rows told) cursor sets.older (change ∷ []))
    × IfNone gone (Retires (rows_after rows told) cursor sets.older [])

retired_so : (rows : Rows) (cursor : Option Bytes) (sets : Sets) (taken : Taken) (told : List Change) (gone : Option Change)
    → FindsRetired rows cursor sets taken told gone → Retires (rows_after rows taken.changes) cursor sets.older (option_list gone)
retired_so rows cursor sets taken told gone (same, some, none) =
    subst (λ (cs : List Change). Retires (rows_after rows cs) cursor sets.older (option_list gone)) same
    (retires_found (rows_after rows told) cursor sets.older gone some none)

pub applies : (rows : Rows) (words : ChaCha) (sent : List Item) (conflicts : List Conflict) (cursor : Option Bytes) (retrieved saved : List Item) (token : Bytes)
    (owner : OwnerRow) (sets : Sets) (taken : Taken) (left : ChaCha) (told : List Change) (gone : Option Change) (change : Change) (changes : List Change)
    → AreOfRows rows sent → Passes sent saved conflicts retrieved cursor → HasSets rows owner sets
    → TakesAll sets saved (start rows owner words) (told_by saved conflicts retrieved) (so_far rows taken left)
    → FindsRetired rows cursor sets taken told gone → PutsOwner change (with_tokens taken.next token cursor (owner_columns owner))
    → changes ≡ taken.changes ++ change ∷ option_list gone → Applies rows words sent conflicts cursor retrieved saved token changes left
applies rows words sent conflicts cursor retrieved saved token owner sets taken left told gone change changes of passes holds takes found counted are = record {
  sent_of_rows = of;
  passes = passes;
  owner = owner;
  sets = sets;
  holds = holds;
  end = so_far rows taken left;
  taken = takes;
  left_is = refl;
  counted = change;
  counted_is = counted;
  retired = option_list gone;
  retires = retired_so rows cursor sets taken told gone found;
  changes_are = are;
}

-- each of its changes is of a device's row
pub applied_owned : (rows : Rows) (words : ChaCha) (conflicts : List Conflict) (cursor : Option Bytes) (retrieved saved : List Item) (token : Bytes)
    (owner : OwnerRow) (sets : Sets) (taken : Taken) (left : ChaCha) (told : List Change) (gone : Option Change) (change : Change) (changes : List Change)
    → TakesAll sets saved (start rows owner words) (told_by saved conflicts retrieved) (so_far rows taken left)
    → FindsRetired rows cursor sets taken told gone → PutsOwner change (with_tokens taken.next token cursor (owner_columns owner))
    → changes ≡ taken.changes ++ change ∷ option_list gone → All (IsOf Device) changes
applied_owned rows words conflicts cursor retrieved saved token owner sets taken left told gone change changes takes found counted are =
    let leads = lead_all rows owner.next sets saved (start rows owner words) (told_by saved conflicts retrieved) (so_far rows taken left) takes
    (record { rows_are = refl; of_items = All-nil IsOfItems; grown = omega arith }) in
    subst (λ (cs : List Change). All (IsOf Device) cs) (sym are)
    (All-append (IsOf Device) taken.changes (change ∷ option_list gone) (items_of_device taken.changes leads.of_items)
    (All-cons (IsOf Device) change (option_list gone) (one_of_device change key.Owner refl counted.puts_it.key_is)
    (retired_owned (rows_after rows told) cursor sets.older gone found.1)))

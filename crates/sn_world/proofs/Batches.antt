-- Neither what a device posts nor an answer that it applies is more than a batch.
use Rattle.std.proofs.Common.{◌≡◌, ◌+◌, ◌*◌, ◌≤◌, ℕ, List, [], ◌∷◌, ◌++◌, length, map, Option, Some, None, refl, ap, ◌∙◌, inl, inr, arith}
use Rattle.rand_chacha.specs.ChaCha.{ChaCha}
use Rattle.sn_device.specs.Laws.{IsChecked}
use Rattle.sn_device.specs.Runs.{IsBatch}
use Rattle.sn_device.specs.Sending.{AreUnsent, Numbered, Posts, PostsAll, as_posted}
use Rattle.sn_device.specs.States.{OwnerColumns, columns, owner_columns}
use Rattle.sn_device.specs.Steps.{Applies, Retires, start, with_tokens}
use Rattle.sn_device.specs.Taking.{Told, is_conflict, is_retrieved, is_saved, told_by}
use Rattle.sn_conflict.specs.Checks.{HasItsStrings, IsConflict, IsRetrieved, IsSaved, Passes}
use Rattle.sn_laws.specs.Each.{Each}
use Rattle.sn_laws.specs.Lookups.{Bytes}
use Rattle.sn_rows.specs.Table.{Rows}
use Rattle.sn_rows.specs.declared.change.Change.{Change}
use Rattle.sn_sync.specs.Versions.{item_of}
use Rattle.sn_sync.specs.declared.answer.Conflict.{Conflict}
use Rattle.sn_sync.specs.declared.item.Item.{Item}
use Rattle.sn_string.specs.declared.params.KeySet.{KeySet}
use Rattle.sn_world.proofs.AnswerPage.{weigh_all}
use Rattle.sn_world.proofs.Lists.{each_both, each_map, each_right}
use Rattle.sn_world.proofs.RowSizes.{body_most, owner_size, put_size, retired_size, size_of, sizes_append, sizes_cons, sizes_of}
use Rattle.sn_world.proofs.TakenSizes.{Adds, KeepsWeight, adds_all, bounds, bounds_told}
use Rattle.sn_world.specs.Fitting.{FitsUuids}

-- ---- what is posted

posts_size : (rows : Rows) (number : ℕ) (change : Change) → FitsUuids rows → Posts rows number change → size_of change ≤ 6342000
posts_size rows number change have x =
    let few = put_size change number (as_posted (columns x.local)) x.puts (have number x.local x.stands).0 in
    let base = body_most x.local.body in
    let draft = body_most x.local.latest in
    omega arith

all_posted : (rows : Rows) (numbers : List ℕ) (posted : List Change) → FitsUuids rows → PostsAll rows numbers posted → sizes_of posted ≤ 6342000 * length numbers
all_posted rows [] [] have all = let none : sizes_of [] ≡ 0 = refl in omega arith
all_posted rows [] (c ∷ cs) have all = absurd all
all_posted rows (n ∷ ns) [] have all = absurd all
all_posted rows (n ∷ ns) (c ∷ cs) have (first, rest) =
    let others = all_posted rows ns cs have rest in
    let few = posts_size rows n c have first in
    let whole = sizes_cons c cs in
    omega arith

few_unsent : (chosen : List Numbered) (numbers : List ℕ) → AreUnsent chosen numbers → length numbers ≤ length chosen
few_unsent [] numbers none = let same = ap length none in omega arith
few_unsent (w ∷ chosen) numbers (inl (unsent, (later, is, rest))) = let few = few_unsent chosen later rest in let same = ap length is in omega arith
few_unsent (w ∷ chosen) numbers (inr (sent, rest)) = let few = few_unsent chosen numbers rest in omega arith

pub posted_fit : (rows : Rows) (chosen : List Numbered) (numbers : List ℕ) (posted : List Change) → FitsUuids rows → length chosen ≤ 150
    → AreUnsent chosen numbers → PostsAll rows numbers posted → IsBatch posted
posted_fit rows chosen numbers posted have few unsent all =
    let size = all_posted rows numbers posted have all in
    let fewer = few_unsent chosen numbers unsent in
    omega arith

-- ---- an answer that is applied

-- of a set that is retired the row goes
few_retired : (rows : Rows) (cursor : Option Bytes) (found : Option KeySet) (changes : List Change) → Retires rows cursor found changes → sizes_of changes ≤ 100
few_retired rows cursor None changes none = let same = ap sizes_of none in let empty : sizes_of [] ≡ 0 = refl in omega arith
few_retired rows cursor (Some set) changes (inl (may, (change, gone, is))) =
    let few = retired_size change gone in
    let whole = sizes_cons change [] in
    let same = ap sizes_of is in
    let empty : sizes_of [] ≡ 0 = refl in
    omega arith
few_retired rows cursor (Some set) changes (inr (stays, none)) = let same = ap sizes_of none in let empty : sizes_of [] ≡ 0 = refl in omega arith

checked : (sent saved : List Item) (conflicts : List Conflict) (retrieved : List Item) (cursor : Option Bytes) → Passes sent saved conflicts retrieved cursor
    → Each IsChecked (told_by saved conflicts retrieved)
checked sent saved conflicts retrieved cursor passes =
    let lists = passes.lists in
    each_both IsChecked (map is_saved saved) (map is_conflict conflicts ++ map is_retrieved retrieved)
    (each_map is_saved IsChecked saved (each_right (IsSaved sent) HasItsStrings (λ before i right. right.strings) saved lists.named.saved_are))
    (each_both IsChecked (map is_conflict conflicts) (map is_retrieved retrieved)
    (each_map is_conflict IsChecked conflicts
    (each_right (IsConflict sent saved) (λ (c : Conflict). HasItsStrings (item_of c)) (λ before c right. right.strings) conflicts lists.named.conflicts_are))
    (each_map is_retrieved IsChecked retrieved (each_right IsRetrieved HasItsStrings (λ before i right. right.strings) retrieved lists.retrieved_are)))

module _ (rows : Rows) (words left : ChaCha) (sent : List Item) (conflicts : List Conflict) (cursor : Option Bytes) (retrieved saved : List Item) (token : Bytes)
    (changes : List Change) (x : Applies rows words sent conflicts cursor retrieved saved token changes left) (weight : KeepsWeight x.sets)
    (have : FitsUuids rows) where
  abbrev told : List Told
  told = told_by saved conflicts retrieved

  abbrev own : OwnerColumns
  own = with_tokens x.end.next token cursor (owner_columns x.owner)

  added : Adds (start rows x.owner words) x.end (bounds x.sets weight told)
  added =
      adds_all x.sets weight saved (start rows x.owner words) x.end told (checked sent saved conflicts retrieved cursor x.passes) have x.taken

  changes_are : changes ≡ added.made ++ x.counted ∷ x.retired
  changes_are = x.changes_are ∙ ap (λ (xs : List Change). xs ++ x.counted ∷ x.retired) added.changes

  pub applied_fit : length x.owner.account ≡ 16 → length saved + length conflicts ≤ 150 → length retrieved ≤ 150 → weigh_all retrieved ≤ 4194304
      → IsBatch changes
  applied_fit account few page light =
      let most = bounds_told x.sets weight saved conflicts retrieved few page light in
      let made = added.size in
      let counted = owner_size x.counted own x.counted_is account in
      let one = sizes_cons x.counted x.retired in
      let last = few_retired x.end.rows cursor x.sets.older x.retired x.retires in
      let whole = ap sizes_of changes_are ∙ sizes_append added.made (x.counted ∷ x.retired) in
      omega arith

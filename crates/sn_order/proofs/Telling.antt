-- The changes of each commit are of the kind of what is done.
use Rattle.std.proofs.Common.{◌≡◌, ◌⊎◌, ℕ, arith, Bool, true, false, List, [], ◌∷◌, ◌++◌, Option, Some, None, refl, sym, ap, ◌∙◌, subst, inl, inr}
use Rattle.std.proofs.lemmas.List.Elements.{All-nil}
use Rattle.rand_chacha.specs.ChaCha.{ChaCha}
use Rattle.sn_device.proofs.Facts.{IsOfItems, Leads, lead_all}
use Rattle.sn_device.specs.Changing.{RekeysAll}
use Rattle.sn_device.specs.Sending.{Numbered, PostsAll, PutsColumns}
use Rattle.sn_device.specs.States.{Bytes, Columns, columns}
use Rattle.sn_device.specs.Steps.{Adopts, Applies, AppliesAnswer, AppliesTo, Asks, BeginsDevice, Deletes, DropsAsked, Edits, Forgets, IsUnknown, PutsNew, Renews, Retires, Step, What, adopts, applies, asks, begins, deletes, drafted, edits, forgets, posts, puts, renews, start}
use Rattle.sn_device.specs.Taking.{told_by}
use Rattle.sn_rows.specs.Table.{Removes, Rows}
use Rattle.sn_rows.specs.declared.body.RowBody.TheVariants as row
use Rattle.sn_rows.specs.declared.change.Change.{Change}
use Rattle.sn_rows.specs.declared.key.Key.TheVariants as key
use Rattle.sn_rows.specs.declared.key.Slot.TheVariants.{Asked, Older, Present}
use Rattle.sn_rows.specs.declared.value.Value.TheVariants as value
use Rattle.sn_sets.specs.declared.sets.Sets.{Sets}
use Rattle.sn_string.specs.declared.params.KeySet.{KeySet}
use Rattle.sn_sync.specs.declared.answer.Answer.{Answer}
use Rattle.sn_sync.specs.declared.answer.Answer.TheVariants as answer
use Rattle.sn_sync.specs.declared.answer.Conflict.{Conflict}
use Rattle.sn_sync.specs.declared.item.Item.{Item}
use Rattle.sn_sync.specs.declared.request.Request.{Request}
use Rattle.sn_sync.specs.declared.request.Request.TheVariants as request
use Rattle.sn_order.specs.Kinds.{kind_by, kind_of}
use Rattle.sn_order.specs.declared.kind.Kind.TheVariants as kind
use Rattle.sn_order.proofs.Tests.{Passes, passes_gone, passes_items, passes_kind, passes_none, passes_put}

-- ---- the first rows, and a session token

begins_kind : (set : KeySet) (account token : Bytes) (changes : List Change) → BeginsDevice set account token changes → kind_of changes ≡ kind.Joins
begins_kind set account token changes x =
    ap kind_of x.changes_are ∙ passes_kind (x.owner ∷ x.present ∷ []) false true false true
    (passes_put x.owner key.Owner (value.Owner x.owner_is.owner) (x.present ∷ []) false true false false x.owner_is.puts_it
    (passes_put x.present (key.Set Present) (value.Set x.keys) [] false false false false x.present_is passes_none))

renews_kind : (rows : Rows) (token : Bytes) (changes : List Change) → Renews rows token changes → kind_of changes ≡ kind.Counts
renews_kind rows token changes x =
    ap kind_of x.changes_are ∙ passes_kind (x.change ∷ []) false false false true
    (passes_put x.change key.Owner (value.Owner x.renewed.owner) [] false false false false x.renewed.puts_it passes_none)

-- ---- the user's changes

puts_kind : (rows : Rows) (words : ChaCha) (uuid type text : Bytes) (changes : List Change) (left : ChaCha) → PutsNew rows words uuid type text changes left
    → kind_of changes ≡ kind.Counts
puts_kind rows words uuid type text changes left x =
    ap kind_of x.changes_are ∙ passes_kind (x.item ∷ x.counted ∷ []) false false false true
    (passes_put x.item (key.Local x.owner.next) (value.Local x.item_is.local) (x.counted ∷ []) false false false true x.item_is.puts
    (passes_put x.counted key.Owner (value.Owner x.counted_is.owner) [] false false false false x.counted_is.puts_it passes_none))

edits_kind : (rows : Rows) (words : ChaCha) (uuid text : Bytes) (changes : List Change) (left : ChaCha) → Edits rows words uuid text changes left
    → kind_of changes ≡ kind.Drafts
edits_kind rows words uuid text changes left x =
    ap kind_of x.changes_are ∙ passes_kind (x.change ∷ []) false false false false
    (passes_put x.change (key.Local x.number) (value.Local x.change_is.local) [] false false false false x.change_is.puts passes_none)

-- an item's row is taken away, or put
gone_or_put : (A B : Type 0) (c : Change) (number : ℕ) (columns : Columns) → (A × Removes c (key.Local number)) ⊎ (B × PutsColumns c number columns)
    → Passes (c ∷ []) false false false false
gone_or_put A B c number columns (inl (unknown, gone)) = passes_gone c (key.Local number) [] false false false false gone passes_none
gone_or_put A B c number columns (inr (known, put)) = passes_put c (key.Local number) (value.Local put.local) [] false false false false put.puts passes_none

deletes_kind : (rows : Rows) (uuid : Bytes) (changes : List Change) → Deletes rows uuid changes → kind_of changes ≡ kind.Drafts
deletes_kind rows uuid changes x =
    ap kind_of x.changes_are ∙ passes_kind (x.change ∷ []) false false false false
    (gone_or_put (IsUnknown x.local) (¬ (IsUnknown x.local)) x.change x.number (drafted (Some row.Deleted) (columns x.local)) x.change_is)

-- ---- a sync

-- drafts that are posted, none too
posts_pass : (rows : Rows) (numbers : List ℕ) (changes : List Change) → PostsAll rows numbers changes → Passes changes false false false false
posts_pass rows [] [] all = passes_none
posts_pass rows [] (c ∷ changes) all = absurd all
posts_pass rows (n ∷ numbers) [] all = absurd all
posts_pass rows (n ∷ numbers) (c ∷ changes) all =
    passes_put c (key.Local n) (value.Local all.0.puts.local) changes false false false false all.0.puts.puts (posts_pass rows numbers changes all.1)

retires_pass : (rows : Rows) (cursor : Option Bytes) (older : Option KeySet) (changes : List Change) → Retires rows cursor older changes
    → Passes changes false false false false
retires_pass rows cursor None changes is = subst (λ (cs : List Change). Passes cs false false false false) (sym is) passes_none
retires_pass rows cursor (Some set) changes (inl (may, (change, gone, is))) =
    subst (λ (cs : List Change). Passes cs false false false false) (sym is)
    (passes_gone change (key.Set Older) [] false false false false gone passes_none)
retires_pass rows cursor (Some set) changes (inr (not, is)) = subst (λ (cs : List Change). Passes cs false false false false) (sym is) passes_none

applies_kind : (rows : Rows) (words : ChaCha) (sent : List Item) (conflicts : List Conflict) (cursor : Option Bytes) (retrieved saved : List Item) (token : Bytes)
    (changes : List Change) (left : ChaCha) → Applies rows words sent conflicts cursor retrieved saved token changes left → kind_of changes ≡ kind.Counts
applies_kind rows words sent conflicts cursor retrieved saved token changes left x =
    let first : Leads rows x.owner.next (start rows x.owner words) = record { rows_are = refl; of_items = All-nil IsOfItems; grown = omega arith } in
    let last : Leads rows x.owner.next x.end =
    lead_all rows x.owner.next x.sets saved (start rows x.owner words) (told_by saved conflicts retrieved) x.end x.taken first in
    ap kind_of x.changes_are ∙ passes_kind (x.end.changes ++ x.counted ∷ x.retired) false false false true
    (passes_items x.end.changes (x.counted ∷ x.retired) false false false true last.of_items
    (passes_put x.counted key.Owner (value.Owner x.counted_is.owner) x.retired false false false false x.counted_is.puts_it
    (retires_pass x.end.rows cursor x.sets.older x.retired x.retires)))

answer_kind : (rows : Rows) (words : ChaCha) (sent : List Item) (given : Answer) (changes : List Change) (left : ChaCha)
    → AppliesAnswer rows words sent given changes left → kind_of changes ≡ kind.Counts
answer_kind rows words sent (answer.Sync conflicts cursor retrieved saved token) changes left x =
    applies_kind rows words sent conflicts cursor retrieved saved token changes left x
answer_kind rows words sent (answer.Account token identifier uuid) changes left x = absurd x
answer_kind rows words sent (answer.Params params) changes left x = absurd x
answer_kind rows words sent (answer.Refused status tag more) changes left x = absurd x

applied_kind : (rows : Rows) (words : ChaCha) (r : Request) (given : Answer) (changes : List Change) (left : ChaCha) → AppliesTo rows words r given changes left
    → kind_of changes ≡ kind.Counts
applied_kind rows words (request.Sync token items limit sync_token cursor_token) given changes left x = answer_kind rows words items given changes left x
applied_kind rows words (request.Register params pw) given changes left x = absurd x
applied_kind rows words (request.Params identifier) given changes left x = absurd x
applied_kind rows words (request.SignIn identifier pw) given changes left x = absurd x
applied_kind rows words (request.ChangePw token current pw cost nonce) given changes left x = absurd x

-- ---- a change of password

asks_kind : (rows : Rows) (set : KeySet) (changes : List Change) → Asks rows set changes → kind_of changes ≡ kind.Asks
asks_kind rows set changes x =
    ap kind_of x.changes_are ∙ passes_kind (x.change ∷ []) true false false false
    (passes_put x.change (key.Set Asked) (value.Set x.put.keys) [] false false false false x.put.puts passes_none)

-- items that are sealed again pass no test
rekeyed_pass : (sets : Sets) (set : KeySet) (words : ChaCha) (items : List Numbered) (changes : List Change) (left : ChaCha) (later : List Change)
    (asking joining ending counting : Bool) → RekeysAll sets set words items changes left → Passes later asking joining ending counting
    → Passes (changes ++ later) asking joining ending counting
rekeyed_pass sets set words [] changes left later asking joining ending counting (none, same) rest =
    subst (λ (cs : List Change). Passes (cs ++ later) asking joining ending counting) (sym none) rest
rekeyed_pass sets set words (w ∷ items) changes left later asking joining ending counting (inl (closed, others)) rest =
    rekeyed_pass sets set words items changes left later asking joining ending counting others rest
rekeyed_pass sets set words (w ∷ items) changes left later asking joining ending counting (inr (opens, after, between, change, more, rekeys, put, is, others)) rest =
    subst (λ (cs : List Change). Passes (cs ++ later) asking joining ending counting) (sym is)
    (passes_put change (key.Local w.0) (value.Local after) (more ++ later) asking joining ending counting put
    (rekeyed_pass sets set between items more left later asking joining ending counting others rest))

-- the set that was asked for is dropped, or there was none
dropped_pass : (was : Option KeySet) (changes : List Change) → DropsAsked was changes → (ending : Bool) × Passes changes false false ending false
dropped_pass None changes is = (false, subst (λ (cs : List Change). Passes cs false false false false) (sym is) passes_none)
dropped_pass (Some set) changes (change, gone, is) =
    (true, subst (λ (cs : List Change). Passes cs false false true false) (sym is) (passes_gone change (key.Set Asked) [] false false false false gone passes_none))

adopts_kind : (rows : Rows) (words : ChaCha) (set : KeySet) (token : Bytes) (changes : List Change) (left : ChaCha) → Adopts rows words set token changes left
    → kind_of changes ≡ kind.Joins
adopts_kind rows words set token changes left x =
    let gone : (ending : Bool) × Passes x.dropped false false ending false = dropped_pass x.sets.asked x.dropped x.drops in
    ap kind_of x.changes_are ∙ passes_kind (x.rekeyed ++ x.counted ∷ x.present ∷ x.older ∷ x.dropped) false true gone.0 true
    (rekeyed_pass x.sets set words x.items x.rekeyed left (x.counted ∷ x.present ∷ x.older ∷ x.dropped) false true gone.0 true x.rekeys
    (passes_put x.counted key.Owner (value.Owner x.counted_is.owner) (x.present ∷ x.older ∷ x.dropped) false true gone.0 false x.counted_is.puts_it
    (passes_put x.present (key.Set Present) (value.Set x.present_is.keys) (x.older ∷ x.dropped) false false gone.0 false x.present_is.puts
    (passes_put x.older (key.Set Older) (value.Set x.older_is.keys) x.dropped false false gone.0 false x.older_is.puts gone.1))))

forgets_kind : (rows : Rows) (changes : List Change) → Forgets rows changes → kind_of changes ≡ kind.Forgets
forgets_kind rows changes x =
    ap kind_of x.changes_are ∙ passes_kind (x.change ∷ []) false false true false
    (passes_gone x.change (key.Set Asked) [] false false false false x.removes passes_none)

-- ---- each of them

pub kinds_tell : (rows : Rows) (words left : ChaCha) (what : What) (changes : List Change) → Step rows words what changes left → kind_of changes ≡ kind_by what
kinds_tell rows words left (begins set account token) changes x = begins_kind set account token changes x.1
kinds_tell rows words left (renews token) changes x = renews_kind rows token changes x.0
kinds_tell rows words left (puts uuid type text) changes x = puts_kind rows words uuid type text changes left x
kinds_tell rows words left (edits uuid text) changes x = edits_kind rows words uuid text changes left x
kinds_tell rows words left (deletes uuid) changes x = deletes_kind rows uuid changes x.0
kinds_tell rows words left (posts numbers) changes x = passes_kind changes false false false false (posts_pass rows numbers changes x.0)
kinds_tell rows words left (applies r given) changes x = applied_kind rows words r given changes left x
kinds_tell rows words left (asks set) changes x = asks_kind rows set changes x.0
kinds_tell rows words left (adopts set token) changes x = adopts_kind rows words set token changes left x
kinds_tell rows words left forgets changes x = forgets_kind rows changes x.0

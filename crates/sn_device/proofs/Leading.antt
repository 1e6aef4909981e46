-- An answer changes the rows of items alone, and leaves the rows after its changes.
use Rattle.std.proofs.Common.{arith, ◌≡◌, ◌≤◌, ℕ, Bool, true, false, List, [], ◌∷◌, ◌++◌, All, Option, Some, None, sym, ap, ◌∙◌, subst, inl, inr}
use Rattle.std.proofs.lemmas.List.Elements.{All-append, All-cons, All-nil}
use mathlib.Core.Path.{fun_ext}
use Rattle.rand_chacha.specs.ChaCha.{ChaCha}
use Rattle.sn_conflict.specs.declared.meeting.Meeting.{Meeting}
use Rattle.sn_conflict.specs.declared.meeting.Meeting.TheVariants as meeting
use Rattle.sn_rows.specs.Facts.{row_after-append}
use Rattle.sn_rows.specs.Kinds.{key_kind}
use Rattle.sn_rows.specs.Table.{Rows, key_of, rows_after}
use Rattle.sn_rows.specs.declared.body.RowBody.{RowBody}
use Rattle.sn_rows.specs.declared.body.RowBody.TheVariants as row
use Rattle.sn_rows.specs.declared.change.Change.{Change}
use Rattle.sn_rows.specs.declared.device_rows.LocalItem.{LocalItem}
use Rattle.sn_rows.specs.declared.key.Key.TheVariants as key
use Rattle.sn_rows.specs.declared.kind.RowKind.TheVariants as kind
use Rattle.sn_sets.specs.declared.sets.Sets.{Sets}
use Rattle.sn_sync.specs.declared.answer.Conflict.{Conflict}
use Rattle.sn_sync.specs.declared.answer.Conflict.TheVariants as conflict
use Rattle.sn_sync.specs.declared.item.Body.{Body}
use Rattle.sn_sync.specs.declared.item.Body.TheVariants as body
use Rattle.sn_sync.specs.declared.item.Item.{Item}
use Rattle.sn_device.specs.States.{Bytes}
use Rattle.sn_device.specs.Taking.{MakesRow, Meets, Progress, Renames, Takes, TakesAll, TakesBody, TakesConflict, TakesOwn, TakesServer, TakesUnsaved, Told, changed, is_conflict, is_retrieved, is_saved, made, with_words}

-- the change is of an item's row
abbrev pub IsOfItems : Change → Type 0
IsOfItems c = key_kind (key_of c) ≡ kind.Local

pub after_append : (rows : Rows) (first second : List Change) → rows_after rows (first ++ second) ≡ rows_after (rows_after rows first) second
after_append rows first second = fun_ext (λ at. row_after-append (rows at) at first second)

pub one_of_items : (c : Change) (number : ℕ) → key_of c ≡ key.Local number → All IsOfItems (c ∷ [])
one_of_items c number named = All-cons IsOfItems c [] (ap key_kind named) (All-nil IsOfItems)

-- what is left so far are the rows after what was changed so far, items alone were, and the next local number has not fallen
pub record Leads (rows : Rows) (next : ℕ) (p : Progress) : Type 0 where
  pub rows_are : p.rows ≡ rows_after rows p.changes
  pub of_items : All IsOfItems p.changes
  pub grown : next ≤ p.next

lead_to : (rows : Rows) (next : ℕ) (p q : Progress) → q ≡ p → Leads rows next p → Leads rows next q
lead_to rows next p q e leads = subst (Leads rows next) (sym e) leads

lead_change : (rows : Rows) (next : ℕ) (p : Progress) (c : Change) (number : ℕ) → key_of c ≡ key.Local number → Leads rows next p → Leads rows next (changed p c)
lead_change rows next p c number named leads = record {
  rows_are = ap (λ (r : Rows). rows_after r (c ∷ [])) leads.rows_are ∙ sym (after_append rows p.changes (c ∷ []));
  of_items = All-append IsOfItems p.changes (c ∷ []) leads.of_items (one_of_items c number named);
  grown = leads.grown;
}

lead_changed : (rows : Rows) (next : ℕ) (p : Progress) (c : Change) (left : ChaCha) (number : ℕ) → key_of c ≡ key.Local number → Leads rows next p
    → Leads rows next (with_words (changed p c) left)
lead_changed rows next p c left number named leads =
    let after : Leads rows next (changed p c) = lead_change rows next p c number named leads in
    record { rows_are = after.rows_are; of_items = after.of_items; grown = leads.grown }

lead_made : (rows : Rows) (next : ℕ) (p : Progress) (c : Change) (left : ChaCha) (number : ℕ) → key_of c ≡ key.Local number → Leads rows next p
    → Leads rows next (with_words (made p c) left)
lead_made rows next p c left number named leads =
    let after : Leads rows next (changed p c) = lead_change rows next p c number named leads in
    record { rows_are = after.rows_are; of_items = after.of_items; grown = omega (arith, leads.grown) }

lead_body : (rows : Rows) (next : ℕ) (sets : Sets) (p : Progress) (number : ℕ) (i : Item) (b : Body) (latest posted : Option RowBody) (q : Progress)
    → TakesBody sets p number i b latest posted q → Leads rows next p → Leads rows next q
lead_body rows next sets p number i body.Deleted latest posted q (c, removes, e) leads =
    lead_to rows next (changed p c) q e (lead_change rows next p c number removes.key_is leads)
lead_body rows next sets p number i (body.Strings content enc) latest posted q (columns, left, c, stands, put, e) leads =
    lead_to rows next (with_words (changed p c) left) q e (lead_changed rows next p c left number put.puts.key_is leads)

lead_meeting : (rows : Rows) (next : ℕ) (sets : Sets) (p : Progress) (number : ℕ) (local : LocalItem) (i : Item) (how : Meeting) (q : Progress)
    → Meets sets p number local i how q → Leads rows next p → Leads rows next q
lead_meeting rows next sets p number local i meeting.Same q m leads = lead_to rows next p q m leads
lead_meeting rows next sets p number local i meeting.Take q m leads = lead_body rows next sets p number i i.body None None q m leads
lead_meeting rows next sets p number local i (meeting.Own true) q m leads = lead_body rows next sets p number i i.body None None q m leads
lead_meeting rows next sets p number local i (meeting.Own false) q m leads = lead_body rows next sets p number i i.body local.latest None q m leads
lead_meeting rows next sets p number local i meeting.GiveWay q m leads = lead_body rows next sets p number i i.body None None q m leads
lead_meeting rows next sets p number local i meeting.Fork q (r, copy, takes) leads =
    lead_body rows next sets r number i i.body None None q takes
    (lead_to rows next (with_words (made p copy.change) copy.left) r copy.gives
    (lead_made rows next p copy.change copy.left p.next copy.puts.puts.key_is leads))

lead_new : (rows : Rows) (next : ℕ) (sets : Sets) (p : Progress) (i : Item) (b : Body) (q : Progress) → MakesRow sets p i b q → Leads rows next p → Leads rows next q
lead_new rows next sets p i body.Deleted q m leads = lead_to rows next p q m leads
lead_new rows next sets p i (body.Strings content enc) q (room, columns, left, c, stands, put, e) leads =
    lead_to rows next (with_words (made p c) left) q e (lead_made rows next p c left p.next put.puts.key_is leads)

lead_server : (rows : Rows) (next : ℕ) (sets : Sets) (p : Progress) (i : Item) (saved : Bool) (q : Progress) → TakesServer sets p i saved q → Leads rows next p
    → Leads rows next q
lead_server rows next sets p i saved q (inl (number, local, how, stands, meets, does)) leads = lead_meeting rows next sets p number local i how q does leads
lead_server rows next sets p i saved q (inr (free, makes)) leads = lead_new rows next sets p i i.body q makes leads

lead_rename : (rows : Rows) (next : ℕ) (sets : Sets) (p : Progress) (number : ℕ) (local : LocalItem) (latest : Option RowBody) (q : Progress)
    → Renames sets p number local latest q → Leads rows next p → Leads rows next q
lead_rename rows next sets p number local None q m leads = lead_to rows next p q m leads
lead_rename rows next sets p number local (Some row.Deleted) q (c, removes, e) leads =
    lead_to rows next (changed p c) q e (lead_change rows next p c number removes.key_is leads)
lead_rename rows next sets p number local (Some (row.Sealed strings)) q (inl (closed, e)) leads = lead_to rows next p q e leads
lead_rename rows next sets p number local (Some (row.Sealed strings)) q (inr (text, uuid, rest, again, left, c, opens, fresh, seals, put, e)) leads =
    lead_to rows next (with_words (changed p c) left) q e (lead_changed rows next p c left number put.puts.key_is leads)

lead_unsaved : (rows : Rows) (next : ℕ) (sets : Sets) (p : Progress) (number : ℕ) (local : LocalItem) (k : Conflict) (q : Progress)
    → TakesUnsaved sets p number local k q → Leads rows next p → Leads rows next q
lead_unsaved rows next sets p number local (conflict.Sync server) q m leads = absurd m
lead_unsaved rows next sets p number local (conflict.Uuid unsaved) q m leads = lead_rename rows next sets p number local local.latest q m leads
lead_unsaved rows next sets p number local (conflict.Content unsaved) q (c, put, e) leads =
    lead_to rows next (changed p c) q e (lead_change rows next p c number put.puts.key_is leads)

lead_own : (rows : Rows) (next : ℕ) (sets : Sets) (p : Progress) (uuid : Bytes) (k : Conflict) (q : Progress) → TakesOwn sets p uuid k q → Leads rows next p
    → Leads rows next q
lead_own rows next sets p uuid k q (inl (number, local, stands, does)) leads = lead_unsaved rows next sets p number local k q does leads
lead_own rows next sets p uuid k q (inr (free, e)) leads = lead_to rows next p q e leads

lead_conflict : (rows : Rows) (next : ℕ) (sets : Sets) (p : Progress) (k : Conflict) (q : Progress) → TakesConflict sets p k q → Leads rows next p → Leads rows next q
lead_conflict rows next sets p (conflict.Sync server) q m leads = lead_server rows next sets p server false q m leads
lead_conflict rows next sets p (conflict.Uuid unsaved) q m leads = lead_own rows next sets p unsaved.uuid (conflict.Uuid unsaved) q m leads
lead_conflict rows next sets p (conflict.Content unsaved) q m leads = lead_own rows next sets p unsaved.uuid (conflict.Content unsaved) q m leads

pub lead_told : (rows : Rows) (next : ℕ) (sets : Sets) (saved : List Item) (p : Progress) (t : Told) (q : Progress) → Takes sets saved p t q → Leads rows next p
    → Leads rows next q
lead_told rows next sets saved p (is_saved i) q m leads = lead_server rows next sets p i true q m leads
lead_told rows next sets saved p (is_conflict k) q m leads = lead_conflict rows next sets p k q m leads
lead_told rows next sets saved p (is_retrieved i) q (inl (again, e)) leads = lead_to rows next p q e leads
lead_told rows next sets saved p (is_retrieved i) q (inr (first, m)) leads = lead_server rows next sets p i false q m leads

pub lead_all : (rows : Rows) (next : ℕ) (sets : Sets) (saved : List Item) (p : Progress) (ts : List Told) (q : Progress) → TakesAll sets saved p ts q
    → Leads rows next p → Leads rows next q
lead_all rows next sets saved p [] q e leads = lead_to rows next p q e leads
lead_all rows next sets saved p (t ∷ ts) q (r, takes, later) leads = lead_all rows next sets saved r ts q later (lead_told rows next sets saved p t r takes leads)

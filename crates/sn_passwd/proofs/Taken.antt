-- The rows that an answer has left so far are those after what it has changed so far.
use Rattle.std.proofs.Common.{◌≡◌, ℕ, Bool, true, false, List, [], ◌∷◌, Option, Some, None, refl, sym, ap, ◌∙◌, subst, inl, inr}
use Rattle.rand_chacha.specs.ChaCha.{ChaCha}
use Rattle.sn_device.proofs.Facts.{after_append}
use Rattle.sn_device.specs.Steps.{Applies, start}
use Rattle.sn_device.specs.Taking.{MakesRow, Meets, Progress, Renames, Takes, TakesAll, TakesBody, TakesConflict, TakesOwn, TakesServer, TakesUnsaved, Told, changed, is_conflict, is_retrieved, is_saved, made, told_by, with_words}
use Rattle.sn_conflict.specs.declared.meeting.Meeting.{Meeting}
use Rattle.sn_conflict.specs.declared.meeting.Meeting.TheVariants as meeting
use Rattle.sn_laws.specs.Lookups.{Bytes}
use Rattle.sn_rows.specs.Table.{Rows, rows_after}
use Rattle.sn_rows.specs.declared.body.RowBody.{RowBody}
use Rattle.sn_rows.specs.declared.body.RowBody.TheVariants as row
use Rattle.sn_rows.specs.declared.change.Change.{Change}
use Rattle.sn_rows.specs.declared.device_rows.LocalItem.{LocalItem}
use Rattle.sn_sets.specs.declared.sets.Sets.{Sets}
use Rattle.sn_sync.specs.declared.answer.Conflict.{Conflict}
use Rattle.sn_sync.specs.declared.answer.Conflict.TheVariants as conflict
use Rattle.sn_sync.specs.declared.item.Body.{Body}
use Rattle.sn_sync.specs.declared.item.Body.TheVariants as body
use Rattle.sn_sync.specs.declared.item.Item.{Item}

module _ (rows : Rows) (sets : Sets) where
  abbrev IsAfter : Progress → Type 0
  IsAfter p = p.rows ≡ rows_after rows p.changes

  so : (p q : Progress) → q ≡ p → IsAfter p → IsAfter q
  so p q e is = subst IsAfter (sym e) is

  -- one change more
  one_more : (p : Progress) (c : Change) → IsAfter p → IsAfter (changed p c)
  one_more p c is = ap (λ (r : Rows). rows_after r (c ∷ [])) is ∙ sym (after_append rows p.changes (c ∷ []))

  after_body : (p : Progress) (n : ℕ) (i : Item) (b : Body) (latest posted : Option RowBody) (q : Progress) → TakesBody sets p n i b latest posted q
      → IsAfter p → IsAfter q
  after_body p n i body.Deleted latest posted q (c, removes, e) is = so (changed p c) q e (one_more p c is)
  after_body p n i (body.Strings content enc) latest posted q (columns, left, c, stands, put, e) is =
      so (with_words (changed p c) left) q e (one_more p c is)

  after_meeting : (p : Progress) (n : ℕ) (local : LocalItem) (i : Item) (how : Meeting) (q : Progress) → Meets sets p n local i how q → IsAfter p
      → IsAfter q
  after_meeting p n local i meeting.Same q m is = so p q m is
  after_meeting p n local i meeting.Take q m is = after_body p n i i.body None None q m is
  after_meeting p n local i (meeting.Own true) q m is = after_body p n i i.body None None q m is
  after_meeting p n local i (meeting.Own false) q m is = after_body p n i i.body local.latest None q m is
  after_meeting p n local i meeting.GiveWay q m is = after_body p n i i.body None None q m is
  after_meeting p n local i meeting.Fork q (r, copy, takes) is =
      after_body r n i i.body None None q takes (so (with_words (made p copy.change) copy.left) r copy.gives (one_more p copy.change is))

  after_new : (p : Progress) (i : Item) (b : Body) (q : Progress) → MakesRow sets p i b q → IsAfter p → IsAfter q
  after_new p i body.Deleted q m is = so p q m is
  after_new p i (body.Strings content enc) q (room, columns, left, c, stands, put, e) is = so (with_words (made p c) left) q e (one_more p c is)

  after_server : (p : Progress) (i : Item) (saved : Bool) (q : Progress) → TakesServer sets p i saved q → IsAfter p → IsAfter q
  after_server p i saved q (inl (n, local, how, stands, meets, does)) is = after_meeting p n local i how q does is
  after_server p i saved q (inr (free, makes)) is = after_new p i i.body q makes is

  after_rename : (p : Progress) (n : ℕ) (local : LocalItem) (latest : Option RowBody) (q : Progress) → Renames sets p n local latest q → IsAfter p → IsAfter q
  after_rename p n local None q m is = so p q m is
  after_rename p n local (Some row.Deleted) q (c, removes, e) is = so (changed p c) q e (one_more p c is)
  after_rename p n local (Some (row.Sealed strings)) q (inl (closed, e)) is = so p q e is
  after_rename p n local (Some (row.Sealed strings)) q (inr (text, uuid, rest, again, left, c, opens, fresh, seals, put, e)) is =
      so (with_words (changed p c) left) q e (one_more p c is)

  after_unsaved : (p : Progress) (n : ℕ) (local : LocalItem) (k : Conflict) (q : Progress) → TakesUnsaved sets p n local k q → IsAfter p → IsAfter q
  after_unsaved p n local (conflict.Sync server) q m is = absurd m
  after_unsaved p n local (conflict.Uuid unsaved) q m is = after_rename p n local local.latest q m is
  after_unsaved p n local (conflict.Content unsaved) q (c, put, e) is = so (changed p c) q e (one_more p c is)

  after_own : (p : Progress) (uuid : Bytes) (k : Conflict) (q : Progress) → TakesOwn sets p uuid k q → IsAfter p → IsAfter q
  after_own p uuid k q (inl (n, local, stands, does)) is = after_unsaved p n local k q does is
  after_own p uuid k q (inr (free, e)) is = so p q e is

  after_conflict : (p : Progress) (k : Conflict) (q : Progress) → TakesConflict sets p k q → IsAfter p → IsAfter q
  after_conflict p (conflict.Sync server) q m is = after_server p server false q m is
  after_conflict p (conflict.Uuid unsaved) q m is = after_own p unsaved.uuid (conflict.Uuid unsaved) q m is
  after_conflict p (conflict.Content unsaved) q m is = after_own p unsaved.uuid (conflict.Content unsaved) q m is

  after_told : (saved : List Item) (p : Progress) (t : Told) (q : Progress) → Takes sets saved p t q → IsAfter p → IsAfter q
  after_told saved p (is_saved i) q m is = after_server p i true q m is
  after_told saved p (is_conflict k) q m is = after_conflict p k q m is
  after_told saved p (is_retrieved i) q (inl (again, e)) is = so p q e is
  after_told saved p (is_retrieved i) q (inr (first, m)) is = after_server p i false q m is

  after_all : (saved : List Item) (p : Progress) (ts : List Told) (q : Progress) → TakesAll sets saved p ts q → IsAfter p → IsAfter q
  after_all saved p [] q e is = so p q e is
  after_all saved p (t ∷ ts) q (r, takes, later) is = after_all saved r ts q later (after_told saved p t r takes is)

-- so are the rows that it leaves, before the device's own row is put
pub end_rows : (rows : Rows) (words left : ChaCha) (sent : List Item) (conflicts : List Conflict) (cursor : Option Bytes) (retrieved saved : List Item)
    (token : Bytes) (changes : List Change) (s : Applies rows words sent conflicts cursor retrieved saved token changes left)
    → s.end.rows ≡ rows_after rows s.end.changes
end_rows rows words left sent conflicts cursor retrieved saved token changes s =
    after_all rows s.sets saved (start rows s.owner words) (told_by saved conflicts retrieved) s.end s.taken refl

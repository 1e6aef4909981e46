-- What one version of an answer makes of a draft, and of the type of its item.
use Rattle.std.proofs.Common.{◌≡◌, ◌≢◌, ◌⊎◌, ℕ, Bool, true, false, List, Option, Some, None, refl, sym, ap, ◌∙◌, subst, inl, inr, arith}
use Rattle.rand_chacha.specs.ChaCha.{ChaCha}
use Rattle.sn_conflict.specs.Meetings.{HasContent, HasContentOf, MeetsAs, PostedHasContent}
use Rattle.sn_conflict.specs.declared.meeting.Meeting.{Meeting}
use Rattle.sn_conflict.specs.declared.meeting.Meeting.TheVariants as meeting
use Rattle.sn_notes.specs.Copies.{copy_of}
use Rattle.sn_rows.specs.Facts.{put_here}
use Rattle.sn_rows.specs.Table.{Rows, no_rows}
use Rattle.sn_rows.specs.declared.body.RowBody.{RowBody}
use Rattle.sn_rows.specs.declared.body.RowBody.TheVariants as row
use Rattle.sn_rows.specs.declared.body.RowStrings.{RowStrings}
use Rattle.sn_rows.specs.declared.change.Change.{Change}
use Rattle.sn_rows.specs.declared.device_rows.LocalItem.{LocalItem}
use Rattle.sn_rows.specs.declared.key.Key.TheVariants as key
use Rattle.sn_rows.specs.declared.value.Value.TheVariants as value
use Rattle.sn_sets.specs.Sets.{OpensHeld, sealed_of}
use Rattle.sn_sets.specs.declared.sets.Sets.{Sets}
use Rattle.sn_sync.specs.Versions.{item_of}
use Rattle.sn_sync.specs.declared.answer.Conflict.{Conflict}
use Rattle.sn_sync.specs.declared.answer.Conflict.TheVariants as conflict
use Rattle.sn_sync.specs.declared.item.Body.{Body}
use Rattle.sn_sync.specs.declared.item.Body.TheVariants as body
use Rattle.sn_sync.specs.declared.item.Item.{Item}
use Rattle.sn_sets.specs.Seals.{Seals}
use Rattle.sn_device.specs.Laws.{AreWell}
use Rattle.sn_device.specs.Sending.{PutsColumns}
use Rattle.sn_device.specs.States.{Bytes, Columns, HasLocal, columns}
use Rattle.sn_device.specs.Taking.{Copies, IsServers, Meets, Progress, Renames, Takes, TakesBody, TakesOwn, TakesServer, TakesUnsaved, Told, changed, is_conflict, is_retrieved, is_saved, made, unposted, with_words}
use Rattle.sn_device.proofs.Drafts.{Stays, new_number, past_body, past_to, same_row}
use Rattle.sn_device.proofs.Standing.{posted_kind}

-- the draft stays in its row
pub record StaysIn (rows : Rows) (number : ℕ) (local : LocalItem) (latest : RowBody) : Type 0 where
  pub now : LocalItem
  pub there : HasLocal rows number now
  pub uuid_is : now.uuid ≡ local.uuid
  pub kind_is : now.kind ≡ local.kind
  pub drafted : now.latest ≡ Some latest

-- the server's version has its content
pub record HasIt (sets : Sets) (saved : List Item) (t : Told) (local : LocalItem) (latest : RowBody) : Type 0 where
  pub item : Item
  pub flag : Bool
  pub is : IsServers saved t item flag
  pub named : item.uuid ≡ local.uuid
  pub same : HasContent sets local latest item

-- its content, or the copy of it for its uuid, is the draft of another item of its type, under the same local number or the next one
pub record Succeeds (sets : Sets) (rows : Rows) (at next : ℕ) (local : LocalItem) (latest : RowBody) : Type 0 where
  pub strings : RowStrings
  pub was : latest ≡ row.Sealed strings
  pub text : Bytes
  pub opened : OpensHeld sets local.uuid (sealed_of strings) text
  pub number : ℕ
  pub place : (number ≡ at) ⊎ (number ≡ next)
  pub now : LocalItem
  pub there : HasLocal rows number now
  pub kind_is : now.kind ≡ local.kind
  pub anew : RowStrings
  pub drafted : now.latest ≡ Some (row.Sealed anew)
  pub content : Bytes
  pub content_is : (content ≡ text) ⊎ (content ≡ copy_of text local.uuid)
  pub before : ChaCha
  pub left : ChaCha
  pub seals : Seals before sets.present now.uuid content anew left

abbrev pub Becomes : Sets → List Item → Told → ℕ → ℕ → LocalItem → RowBody → Rows → Type 0
Becomes sets saved t next number local latest rows =
    StaysIn rows number local latest ⊎ (HasIt sets saved t local latest ⊎ ((latest ≡ row.Deleted) ⊎ Succeeds sets rows number next local latest))

deleted_content : (sets : Sets) (local : LocalItem) (i : Item) (version : RowBody) → HasContentOf sets local version i body.Deleted → version ≡ row.Deleted
deleted_content sets local i row.Deleted h = refl
deleted_content sets local i (row.Sealed strings) h = absurd h

module _ (sets : Sets) (saved : List Item) (t : Told) (p : Progress) (number : ℕ) (local : LocalItem) (latest : RowBody)
    (there : HasLocal p.rows number local) (drafted : local.latest ≡ Some latest) (well : AreWell sets.present p.next p.rows) where
  as_before : (q : Progress) → q ≡ p → Becomes sets saved t p.next number local latest q.rows
  as_before q e = inl (record {
    now = local;
    there = ap (λ (z : Progress). z.rows (key.Local number)) e ∙ there;
    uuid_is = refl;
    kind_is = refl;
    drafted = drafted;
  })

  put_again : (q : Progress) (c : Change) (cs : Columns) → PutsColumns c number cs → q.rows ≡ (changed p c).rows → cs.uuid ≡ local.uuid
      → cs.kind ≡ local.kind → cs.latest ≡ Some latest → Becomes sets saved t p.next number local latest q.rows
  put_again q c cs put e named kind is = inl (record {
    now = put.local;
    there = ap (λ (r : Rows). r (key.Local number)) e ∙ put_here p.rows c (key.Local number) (value.Local put.local) put.puts;
    uuid_is = ap (λ (x : Columns). x.uuid) put.columns_are ∙ named;
    kind_is = ap (λ (x : Columns). x.kind) put.columns_are ∙ kind;
    drafted = ap (λ (x : Columns). x.latest) put.columns_are ∙ is;
  })

  -- what was sent is answered
  sent_answered : (i : Item) (b : Body) (q : Progress) → local.uuid ≡ i.uuid → i.body ≡ b → PostedHasContent sets local i
      → TakesBody sets p number i b local.latest None q → Becomes sets saved t p.next number local latest q.rows
  sent_answered i body.Deleted q named is (version, sent, same) takes =
      let gone : version ≡ row.Deleted =
      deleted_content sets local i version (subst (λ (b : Body). HasContentOf sets local version i b) is same) in
      let own = well.drafts number local there in
      let both : Some latest ≡ Some row.Deleted = sym drafted ∙ own.deleted (sent ∙ ap Some gone) in
      let e : latest ≡ row.Deleted = cc in
      inr (inr (inl e))
  sent_answered i (body.Strings content enc) q named is posted (cs, left, c, on, put, e) =
      put_again q c cs put (ap (λ (z : Progress). z.rows) e) (on.uuid_is ∙ sym named)
      (on.kind_is ∙ sym (posted_kind sets local i content enc is posted)) (on.latest_is ∙ drafted)

  -- the draft forks
  forked : (i : Item) (r q : Progress) → Copies sets p local r → TakesBody sets r number i i.body None None q → Becomes sets saved t p.next number local latest q.rows
  forked i r q copy takes =
      let below = well.numbered number local there in
      let off : key.Local number ≢ key.Local p.next = λ e. new_number number p.next below (sym e) in
      let new : Stays ⊥ no_rows p.next copy.puts.local (with_words (made p copy.change) copy.left) = record {
        there = put_here p.rows copy.change (key.Local p.next) (value.Local copy.puts.local) copy.puts.puts;
        since = λ no. absurd no;
        below = omega arith;
      } in
      let after = past_body ⊥ no_rows p.next copy.puts.local sets r number i i.body None None q off takes
      (past_to ⊥ no_rows p.next copy.puts.local (with_words (made p copy.change) copy.left) r copy.gives new) in
      let uuid_is : copy.puts.local.uuid ≡ copy.uuid = ap (λ (x : Columns). x.uuid) copy.puts.columns_are in
      let both : Some latest ≡ Some (row.Sealed copy.strings) = sym drafted ∙ copy.drafted in
      let was : latest ≡ row.Sealed copy.strings = cc in
      inr (inr (inr (record {
        strings = copy.strings;
        was = was;
        text = copy.text;
        opened = copy.opens;
        number = p.next;
        place = inr refl;
        now = copy.puts.local;
        there = after.there;
        kind_is = ap (λ (x : Columns). x.kind) copy.puts.columns_are;
        anew = copy.copy;
        drafted = ap (λ (x : Columns). x.latest) copy.puts.columns_are;
        content = copy_of copy.text local.uuid;
        content_is = inr refl;
        before = copy.rest;
        left = copy.left;
        seals = subst (λ (u : Bytes). Seals copy.rest sets.present u (copy_of copy.text local.uuid) copy.copy copy.left) (sym uuid_is) copy.seals;
      })))

  met : (i : Item) (flag : Bool) (how : Meeting) (q : Progress) → IsServers saved t i flag → local.uuid ≡ i.uuid → MeetsAs sets local i flag how
      → Meets sets p number local i how q → Becomes sets saved t p.next number local latest q.rows
  met i flag meeting.Same q is named m does = as_before q does
  met i flag meeting.Take q is named m does = let none = m.clean in absurd cc
  met i flag (meeting.Own true) q is named m does =
      let both : Some m.latest ≡ Some latest = sym m.meets.drafted ∙ drafted in
      let e : m.latest ≡ latest = cc in
      inr (inl (record { item = i; flag = flag; is = is; named = sym named; same = subst (λ (v : RowBody). HasContent sets local v i) e m.same }))
  met i flag (meeting.Own false) q is named m does = sent_answered i i.body q named refl m.same does
  met i flag meeting.GiveWay q is named m does =
      let both : Some latest ≡ Some row.Deleted = sym drafted ∙ m.meets.drafted in
      let e : latest ≡ row.Deleted = cc in
      inr (inr (inl e))
  met i flag meeting.Fork q is named m (r, copy, takes) = forked i r q copy takes

  -- the row of its uuid is this one
  its_row : (at : ℕ) (other : LocalItem) → HasLocal p.rows at other → other.uuid ≡ local.uuid → (at ≡ number) × (other ≡ local)
  its_row at other found same =
      let here : at ≡ number = well.apart at number other local found there same in
      (here, same_row p.rows number other local (subst (λ (n : ℕ). HasLocal p.rows n other) here found) there)

  server_told : (i : Item) (flag : Bool) (q : Progress) → IsServers saved t i flag → local.uuid ≡ i.uuid → TakesServer sets p i flag q
      → Becomes sets saved t p.next number local latest q.rows
  server_told i flag q is named (inl (at, other, how, stands, m, does)) =
      let its = its_row at other stands.0 (stands.1 ∙ sym named) in
      met i flag how q is named (subst (λ (o : LocalItem). MeetsAs sets o i flag how) its.1 m)
      (subst (λ (o : LocalItem). Meets sets p number o i how q) its.1 (subst (λ (n : ℕ). Meets sets p n other i how q) its.0 does))
  server_told i flag q is named (inr (free, makes)) = absurd (free number local (there, named))

  renamed : (found : Option RowBody) (q : Progress) → local.latest ≡ found → Renames sets p number local found q → Becomes sets saved t p.next number local latest q.rows
  renamed None q is m = absurd cc
  renamed (Some row.Deleted) q is m =
      let both : Some latest ≡ Some row.Deleted = sym drafted ∙ is in
      let e : latest ≡ row.Deleted = cc in
      inr (inr (inl e))
  renamed (Some (row.Sealed strings)) q is (inl (closed, e)) = as_before q e
  renamed (Some (row.Sealed strings)) q is (inr (text, uuid, rest, again, left, c, opens, fresh, seals, put, e)) =
      let both : Some latest ≡ Some (row.Sealed strings) = sym drafted ∙ is in
      let was : latest ≡ row.Sealed strings = cc in
      let uuid_is : put.local.uuid ≡ uuid = ap (λ (x : Columns). x.uuid) put.columns_are in
      inr (inr (inr (record {
        strings = strings;
        was = was;
        text = text;
        opened = opens;
        number = number;
        place = inl refl;
        now = put.local;
        there = ap (λ (z : Progress). z.rows (key.Local number)) e ∙ put_here p.rows c (key.Local number) (value.Local put.local) put.puts;
        kind_is = ap (λ (x : Columns). x.kind) put.columns_are;
        anew = again;
        drafted = ap (λ (x : Columns). x.latest) put.columns_are;
        content = text;
        content_is = inl refl;
        before = rest;
        left = left;
        seals = subst (λ (u : Bytes). Seals rest sets.present u text again left) (sym uuid_is) seals;
      })))

  unsaved_told : (k : Conflict) (q : Progress) → TakesUnsaved sets p number local k q → Becomes sets saved t p.next number local latest q.rows
  unsaved_told (conflict.Sync server) q m = absurd m
  unsaved_told (conflict.Uuid unsaved) q m = renamed local.latest q refl m
  unsaved_told (conflict.Content unsaved) q (c, put, e) =
      put_again q c (unposted (columns local)) put (ap (λ (z : Progress). z.rows) e) refl refl drafted

  own_told : (uuid : Bytes) (k : Conflict) (q : Progress) → local.uuid ≡ uuid → TakesOwn sets p uuid k q → Becomes sets saved t p.next number local latest q.rows
  own_told uuid k q named (inl (at, other, stands, does)) =
      let its = its_row at other stands.0 (stands.1 ∙ sym named) in
      unsaved_told k q (subst (λ (o : LocalItem). TakesUnsaved sets p number o k q) its.1 (subst (λ (n : ℕ). TakesUnsaved sets p n other k q) its.0 does))
  own_told uuid k q named (inr (free, e)) = as_before q e

-- the item that it is of
abbrev pub told_uuid : Told → Bytes
told_uuid (is_saved i) = i.uuid
told_uuid (is_conflict k) = (item_of k).uuid
told_uuid (is_retrieved i) = i.uuid

-- of a version of the draft's item
pub becomes : (sets : Sets) (saved : List Item) (t : Told) (p q : Progress) (number : ℕ) (local : LocalItem) (latest : RowBody)
    → HasLocal p.rows number local → local.latest ≡ Some latest → AreWell sets.present p.next p.rows → local.uuid ≡ told_uuid t → Takes sets saved p t q
    → Becomes sets saved t p.next number local latest q.rows
becomes sets saved (is_saved i) p q number local latest there drafted well named m =
    server_told sets saved (is_saved i) p number local latest there drafted well i true q (refl, refl) named m
becomes sets saved (is_conflict (conflict.Sync server)) p q number local latest there drafted well named m =
    server_told sets saved (is_conflict (conflict.Sync server)) p number local latest there drafted well server false q (refl, refl) named m
becomes sets saved (is_conflict (conflict.Uuid unsaved)) p q number local latest there drafted well named m =
    own_told sets saved (is_conflict (conflict.Uuid unsaved)) p number local latest there drafted well unsaved.uuid (conflict.Uuid unsaved) q named m
becomes sets saved (is_conflict (conflict.Content unsaved)) p q number local latest there drafted well named m =
    own_told sets saved (is_conflict (conflict.Content unsaved)) p number local latest there drafted well unsaved.uuid (conflict.Content unsaved) q named m
becomes sets saved (is_retrieved i) p q number local latest there drafted well named (inl (again, e)) =
    as_before sets saved (is_retrieved i) p number local latest there drafted well q e
becomes sets saved (is_retrieved i) p q number local latest there drafted well named (inr (first, m)) =
    server_told sets saved (is_retrieved i) p number local latest there drafted well i false q (refl, refl, first) named m

-- Drafts that go on under fresh uuids.
use Rattle.std.proofs.Common.{◌≡◌, ◌≢◌, ◌∙◌, ◌⊎◌, ◌≤◌, ◌+◌, ◌&&◌, ℕ, Bool, true, false, List, Option, Some, None, inl, inr, refl, sym, ap, subst, length, arith, cond, IfSome, IfNone, String, Global, string_bytes}
use Rattle.std.specs.Prelude.{IsTrue, nat_le}
use Rattle.std.proofs.lemmas.Bool.{and_parts, leb-true}
use Rattle.rand_chacha.specs.ChaCha.{ChaCha}
use Rattle.sn_items.specs.Objects.{is_object}
use Rattle.sn_notes.specs.Copies.{copy_of, marked, marked_or, opened}
use Rattle.sn_rows.specs.Table.{Rows, rows_after}
use Rattle.sn_rows.specs.declared.body.RowBody.{RowBody}
use Rattle.sn_rows.specs.declared.body.RowBody.TheVariants as row
use Rattle.sn_rows.specs.declared.body.RowStrings.{RowStrings}
use Rattle.sn_rows.specs.declared.change.Change.{Change}
use Rattle.sn_rows.specs.declared.device_rows.LocalItem.{LocalItem}
use Rattle.sn_sets.specs.Seals.{longest_sealed}
use Rattle.sn_sets.specs.Sets.{OpensHeld, OpensNowhere, sealed_of}
use Rattle.sn_sets.specs.declared.sets.Sets.{Sets}
use Rattle.sn_string.specs.Bounds.{longest_content}
use Rattle.sn_device.specs.States.{Bytes}
use Rattle.sn_device.specs.Draws.{DrawsNoFresh}
use Rattle.sn_taking.specs.Taken.{FindsNoFresh, HasText, IsReadable, PutsAnew, StopsBy, after, so_far}
use Rattle.sn_device.specs.Taking.{Copies, Progress, Renames, last_number, made, with_words}
use Rattle.sn_device.specs.declared.error.ClientError.TheVariants as refusal
use Rattle.sn_taking.specs.declared.taken.Effect.TheVariants as effect
use Rattle.sn_taking.specs.declared.taken.NotTaken.{NotTaken}
use Rattle.sn_taking.specs.declared.taken.Taken.{Taken}

-- a content that opens is an object
pub opened_object : (sets : Sets) (uuid : Bytes) (strings : RowStrings) (text : Bytes) → OpensHeld sets uuid (sealed_of strings) text → IsTrue (is_object text)
opened_object sets uuid strings text (inl opens) = opens.object
opened_object sets uuid strings text (inr older) = older.opens.object

-- ---- how long a copy is

copy_at : (content uuid copy : Bytes) (test : Bool) → cond test (marked copy uuid) content ≡ cond test (marked copy uuid) content
    → (test ≡ true → length content ≤ longest_content)
    → (cond test (marked copy uuid) content ≡ content) ⊎ (length content ≤ longest_content)
copy_at content uuid copy true e short = inr (short refl)
copy_at content uuid copy false e short = inl refl

copy_or : (content uuid : Bytes) (front : Option Bytes) → (marked_or content front uuid ≡ content) ⊎ (length content ≤ longest_content)
copy_or content uuid None = inl refl
copy_or content uuid (Some front) =
    copy_at content uuid front (nat_le (length content) longest_content && is_object (marked front uuid)) refl
    (λ holds. leb-true (length content) longest_content (and_parts (nat_le (length content) longest_content) (is_object (marked front uuid)) holds).0)

-- a content is its own copy, or one that may be put
copy_is : (content uuid : Bytes) → (copy_of content uuid ≡ content) ⊎ (length content ≤ longest_content)
unfolding copy_of
copy_is content uuid = copy_or content uuid (opened content)

short_copy : (content copy uuid : Bytes) → length content ≤ longest_sealed → copy ≡ copy_of content uuid → length copy ≤ length content + 53
    → ((copy_of content uuid ≡ content) ⊎ (length content ≤ longest_content)) → length copy ≤ longest_sealed
short_copy content copy uuid short is bound (inl own) = let same : length copy ≡ length content = ap length (is ∙ own) in omega (arith, same, short)
short_copy content copy uuid short is bound (inr few) = omega (arith, bound, few)

-- what is sealed of a copy is within the bound
pub copy_short : (content copy uuid : Bytes) → length content ≤ longest_sealed → copy ≡ copy_of content uuid → length copy ≤ length content + 53
    → length copy ≤ longest_sealed
copy_short content copy uuid short is bound = short_copy content copy uuid short is bound (copy_is content uuid)

-- ---- copies and renamed rows

pub copies : (sets : Sets) (p : Progress) (local : LocalItem) (strings : RowStrings) (text copy : Bytes) (change : Change) (left : ChaCha)
    → local.latest ≡ Some (row.Sealed strings) → OpensHeld sets local.uuid (sealed_of strings) text → p.next ≢ last_number → copy ≡ copy_of text local.uuid
    → PutsAnew sets.present p.rows p.words p.next local.kind copy change left → Copies sets p local (with_words (made p change) left)
copies sets p local strings text copy change left drafted opens room is puts =
    let put : PutsAnew sets.present p.rows p.words p.next local.kind (copy_of text local.uuid) change left =
    subst (λ (t : Bytes). PutsAnew sets.present p.rows p.words p.next local.kind t change left) is puts in
    record {
      strings = strings;
      drafted = drafted;
      text = text;
      opens = opens;
      room = room;
      uuid = put.uuid;
      rest = put.rest;
      fresh = put.fresh;
      copy = put.strings;
      left = left;
      seals = put.seals;
      change = change;
      puts = put.puts;
      gives = refl;
    }

pub renames_text : (sets : Sets) (p : Progress) (number : ℕ) (local : LocalItem) (strings : RowStrings) (text : Bytes) (change : Change) (left : ChaCha)
    → local.latest ≡ Some (row.Sealed strings) → OpensHeld sets local.uuid (sealed_of strings) text
    → PutsAnew sets.present p.rows p.words number local.kind text change left → Renames sets p number local local.latest (after p (effect.Changed change) left)
renames_text sets p number local strings text change left is opens put =
    subst (λ (l : Option RowBody). Renames sets p number local l (after p (effect.Changed change) left)) (sym is)
    (inr (text, put.uuid, put.rest, put.strings, left, change, opens, put.fresh, put.seals, put.puts, refl))

pub copied : (sets : Sets) (rows : Rows) (taken : Taken) (words : ChaCha) (changes : List Change) (local : LocalItem) (strings : RowStrings) (text copy : Bytes)
    (change : Change) (left : ChaCha) → changes ≡ taken.changes → local.latest ≡ Some (row.Sealed strings) → OpensHeld sets local.uuid (sealed_of strings) text
    → taken.next ≢ last_number → copy ≡ copy_of text local.uuid
    → PutsAnew sets.present (rows_after rows changes) words taken.next local.kind copy change left
    → Copies sets (so_far rows taken words) local (with_words (made (so_far rows taken words) change) left)
copied sets rows taken words changes local strings text copy change left same drafted opens room is put =
    copies sets (so_far rows taken words) local strings text copy change left drafted opens room is
    (subst (λ (cs : List Change). PutsAnew sets.present (rows_after rows cs) words taken.next local.kind copy change left) same put)

pub renamed : (sets : Sets) (rows : Rows) (taken : Taken) (words : ChaCha) (changes : List Change) (number : ℕ) (local : LocalItem) (strings : RowStrings)
    (text content : Bytes) (change : Change) (left : ChaCha) → changes ≡ taken.changes → content ≡ text → local.latest ≡ Some (row.Sealed strings)
    → OpensHeld sets local.uuid (sealed_of strings) text → PutsAnew sets.present (rows_after rows changes) words number local.kind content change left
    → Renames sets (so_far rows taken words) number local local.latest (after (so_far rows taken words) (effect.Changed change) left)
renamed sets rows taken words changes number local strings text content change left same is drafted opens put =
    renames_text sets (so_far rows taken words) number local strings text change left drafted opens
    (subst (λ (t : Bytes). PutsAnew sets.present (rows_after rows taken.changes) words number local.kind t change left) is
    (subst (λ (cs : List Change). PutsAnew sets.present (rows_after rows cs) words number local.kind content change left) same put))

-- a draft that can be read isn't closed
pub never_closed : (sets : Sets) (local : LocalItem) (strings : RowStrings) → IsReadable sets local → local.latest ≡ Some (row.Sealed strings)
    → OpensNowhere sets local.uuid (sealed_of strings) → ⊥
never_closed sets local strings (other, drafted, (text, opens)) is closed =
    let same : other ≡ strings = cc in
    closed text (subst (λ (s : RowStrings). OpensHeld sets local.uuid (sealed_of s) text) same opens)

-- no fresh uuid for a draft that can be read
pub readable_stops : (sets : Sets) (rows : Rows) (taken : Taken) (words : ChaCha) (changes : List Change) (local : LocalItem) (e : NotTaken) → changes ≡ taken.changes
    → IsReadable sets local
    → StopsBy (λ why. (drawn : Bytes) × DrawsNoFresh (rows_after rows changes) words drawn × (why ≡ refusal.NoFreshUuid drawn)) e
    → StopsBy (λ why. IsReadable sets local × FindsNoFresh (so_far rows taken words) why) e
readable_stops sets rows taken words changes local e same readable (inl memory) = inl memory
readable_stops sets rows taken words changes local e same readable (inr (drawn, none, is)) =
    inr (readable, (drawn, subst (λ (cs : List Change). DrawsNoFresh (rows_after rows cs) words drawn) same none, is))

-- ---- whether a draft can be read

pub unread_none : (sets : Sets) (local : LocalItem) → local.latest ≡ None → ¬ (IsReadable sets local)
unread_none sets local none r = let drafted : local.latest ≡ Some (row.Sealed r.0) = r.1 in cc

pub unread_deleted : (sets : Sets) (local : LocalItem) (version : RowBody) → local.latest ≡ Some version → version ≡ row.Deleted → ¬ (IsReadable sets local)
unread_deleted sets local version is deleted r = let drafted : local.latest ≡ Some (row.Sealed r.0) = r.1 in cc

pub sealed_draft : (local : LocalItem) (version : RowBody) (strings : RowStrings) → local.latest ≡ Some version → version ≡ row.Sealed strings
    → local.latest ≡ Some (row.Sealed strings)
sealed_draft local version strings is sealed = cc

pub unread_closed : (sets : Sets) (local : LocalItem) (strings : RowStrings) (found : Option (String Global)) → local.latest ≡ Some (row.Sealed strings)
    → IfNone found (OpensNowhere sets local.uuid (sealed_of strings)) → IfNone found (¬ (IsReadable sets local))
unread_closed sets local strings None drafted closed = λ r. never_closed sets local strings r drafted closed
unread_closed sets local strings (Some text) drafted closed = tt

pub has_text : (sets : Sets) (local : LocalItem) (strings : RowStrings) (found : Option (String Global)) → local.latest ≡ Some (row.Sealed strings)
    → IfSome found (λ text. OpensHeld sets local.uuid (sealed_of strings) (string_bytes text)) → IfSome found (λ text. HasText sets local (string_bytes text))
has_text sets local strings None drafted opens = tt
has_text sets local strings (Some text) drafted opens = (strings, drafted, opens)

unread_row : (sets : Sets) (p : Progress) (number : ℕ) (local : LocalItem) (latest : Option RowBody) → local.latest ≡ latest → ¬ (IsReadable sets local)
    → latest ≢ Some row.Deleted → Renames sets p number local latest (after p effect.Nothing p.words)
unread_row sets p number local None is unread undeleted = refl
unread_row sets p number local (Some row.Deleted) is unread undeleted = absurd (undeleted refl)
unread_row sets p number local (Some (row.Sealed strings)) is unread undeleted = inl (λ text opens. unread (strings, is, (text, opens)), refl)

pub renames_unread : (sets : Sets) (p : Progress) (number : ℕ) (local : LocalItem) → ¬ (IsReadable sets local) → local.latest ≢ Some row.Deleted
    → Renames sets p number local local.latest (after p effect.Nothing p.words)
renames_unread sets p number local unread undeleted = unread_row sets p number local local.latest refl unread undeleted

-- What one version of an answer makes of a draft.
use Rattle.std.proofs.Common.{◌≡◌, ◌≢◌, ◌⊎◌, ℕ, Bool, true, false, List, Option, Some, None, refl, sym, ap, ◌∙◌, subst, inl, inr, arith}
use Rattle.std.proofs.lemmas.Bool.{cases_Bool}
use Rattle.sn_conflict.specs.Meetings.{HasContent, HasContentOf, MeetsAs, PostedHasContent}
use Rattle.sn_conflict.specs.declared.meeting.Meeting.{Meeting}
use Rattle.sn_conflict.specs.declared.meeting.Meeting.TheVariants as meeting
use Rattle.sn_notes.specs.Copies.{copy_of}
use Rattle.sn_rows.specs.Facts.{keys_compare, put_here}
use Rattle.sn_rows.specs.Table.{no_rows, same_key}
use Rattle.sn_rows.specs.declared.body.RowBody.{RowBody}
use Rattle.sn_rows.specs.declared.body.RowBody.TheVariants as row
use Rattle.sn_rows.specs.declared.change.Change.{Change}
use Rattle.sn_rows.specs.declared.device_rows.LocalItem.{LocalItem}
use Rattle.sn_rows.specs.declared.key.Key.TheVariants as key
use Rattle.sn_rows.specs.declared.value.Value.TheVariants as value
use Rattle.sn_sets.specs.Seals.{Seals}
use Rattle.sn_sets.specs.declared.sets.Sets.{Sets}
use Rattle.sn_sync.specs.declared.answer.Conflict.{Conflict}
use Rattle.sn_sync.specs.declared.answer.Conflict.TheVariants as conflict
use Rattle.sn_sync.specs.declared.item.Body.{Body}
use Rattle.sn_sync.specs.declared.item.Body.TheVariants as body
use Rattle.sn_sync.specs.declared.item.Item.{Item}
use Rattle.sn_device.specs.Laws.{DraftKept, HasDraft, IsDraftOf, MayEnd}
use Rattle.sn_device.specs.Sending.{PutsColumns}
use Rattle.sn_device.specs.States.{Bytes, Columns, HasItem, HasLocal}
use Rattle.sn_device.specs.Taking.{Copies, IsServers, Meets, Progress, Renames, TakesBody, TakesConflict, TakesOwn, TakesServer, TakesUnsaved, Told, changed, is_conflict, is_retrieved, is_saved, made, with_words}
use Rattle.sn_device.proofs.Drafts.{Stays, new_number, past_body, past_meeting, past_new, past_to, past_unsaved, same_row}

-- the draft stays, or ends as it may
abbrev Keeps : Sets → List Item → Told → ℕ → LocalItem → RowBody → Progress → Type 0
Keeps sets saved t number local latest q = HasDraft q.rows local.uuid number latest ⊎ MayEnd sets saved t local latest q

-- what is proved of rows, to be read as nothing of changes
abbrev Here : ℕ → LocalItem → Progress → Type 0
Here number local p = Stays ⊥ no_rows number local p

here : (p : Progress) (number : ℕ) (local : LocalItem) (latest : RowBody) → IsDraftOf p number local latest → Here number local p
here p number local latest d = record { there = d.there; since = λ no. absurd no; below = d.below }

draft_here : (p q : Progress) (number : ℕ) (local : LocalItem) (latest : RowBody) → IsDraftOf p number local latest → Here number local q
    → HasDraft q.rows local.uuid number latest
draft_here p q number local latest d s = record { local = local; stands = (s.there, refl); drafted = d.drafted }

draft_same : (p q : Progress) (number : ℕ) (local : LocalItem) (latest : RowBody) → IsDraftOf p number local latest → q ≡ p
    → HasDraft q.rows local.uuid number latest
draft_same p q number local latest d e =
    draft_here p q number local latest d (past_to ⊥ no_rows number local p q e (here p number local latest d))

-- a row is put with a uuid and a draft
draft_put : (p q : Progress) (c : Change) (number : ℕ) (columns_of : Columns) (uuid : Bytes) (latest : RowBody) → PutsColumns c number columns_of
    → q.rows ≡ (changed p c).rows → columns_of.uuid ≡ uuid → columns_of.latest ≡ Some latest → HasDraft q.rows uuid number latest
draft_put p q c number columns_of uuid latest put e uuid_is latest_is = record {
  local = put.local;
  stands = (
    ap (λ r. r (key.Local number)) e ∙ put_here p.rows c (key.Local number) (value.Local put.local) put.puts,
    ap (λ (x : Columns). x.uuid) put.columns_are ∙ uuid_is,
  );
  drafted = ap (λ (x : Columns). x.latest) put.columns_are ∙ latest_is;
}

-- ---- what was sent is answered

deleted_content : (sets : Sets) (local : LocalItem) (i : Item) (version : RowBody) → HasContentOf sets local version i body.Deleted → version ≡ row.Deleted
deleted_content sets local i row.Deleted h = refl
deleted_content sets local i (row.Sealed strings) h = absurd h

kept_answered : (sets : Sets) (saved : List Item) (t : Told) (p : Progress) (number : ℕ) (local : LocalItem) (latest : RowBody) (i : Item) (b : Body)
    (q : Progress) → IsDraftOf p number local latest → local.uuid ≡ i.uuid → i.body ≡ b → PostedHasContent sets local i
    → TakesBody sets p number i b local.latest None q → Keeps sets saved t number local latest q
kept_answered sets saved t p number local latest i body.Deleted q d named is (version, sent, same) takes =
    let gone : version ≡ row.Deleted =
    deleted_content sets local i version (subst (λ (b : Body). HasContentOf sets local version i b) is same) in
    inr (inr (inl (d.deleted (sent ∙ ap Some gone))))
kept_answered sets saved t p number local latest i (body.Strings content enc) q d named is posted (columns_of, left, c, stands, put, e) =
    inl (draft_put p q c number columns_of local.uuid latest put (ap (λ (z : Progress). z.rows) e)
    (stands.uuid_is ∙ sym named) (stands.latest_is ∙ d.drafted))

-- ---- the draft forks

kept_forked : (sets : Sets) (saved : List Item) (t : Told) (p r q : Progress) (number : ℕ) (local : LocalItem) (latest : RowBody) (i : Item)
    → IsDraftOf p number local latest → Copies sets p local r → TakesBody sets r number i i.body None None q
    → Keeps sets saved t number local latest q
kept_forked sets saved t p r q number local latest i d copy takes =
    let off : key.Local number ≢ key.Local p.next = λ e. new_number number p.next d.below (sym e) in
    let new : Here p.next copy.puts.local (with_words (made p copy.change) copy.left) = record {
      there = put_here p.rows copy.change (key.Local p.next) (value.Local copy.puts.local) copy.puts.puts;
      since = λ no. absurd no;
      below = omega arith;
    } in
    let after = past_body ⊥ no_rows p.next copy.puts.local sets r number i i.body None None q off takes
    (past_to ⊥ no_rows p.next copy.puts.local (with_words (made p copy.change) copy.left) r copy.gives new) in
    let uuid_is : copy.puts.local.uuid ≡ copy.uuid = ap (λ (x : Columns). x.uuid) copy.puts.columns_are in
    let first = d.drafted in
    let second = copy.drafted in
    inr (inr (inr (record {
      strings = copy.strings;
      was = cc;
      text = copy.text;
      opened = copy.opens;
      number = p.next;
      local = copy.puts.local;
      stands = after.there;
      again = copy.copy;
      drafted = ap (λ (x : Columns). x.latest) copy.puts.columns_are;
      content = copy_of copy.text local.uuid;
      content_is = inr refl;
      before = copy.rest;
      left = copy.left;
      seals = subst (λ (u : Bytes). Seals copy.rest sets.present u (copy_of copy.text local.uuid) copy.copy copy.left) (sym uuid_is) copy.seals;
    })))

-- ---- a meeting

kept_meeting : (sets : Sets) (saved : List Item) (t : Told) (p q : Progress) (number : ℕ) (local : LocalItem) (latest : RowBody) (i : Item) (flag : Bool)
    (how : Meeting) → IsDraftOf p number local latest → IsServers saved t i flag → local.uuid ≡ i.uuid → MeetsAs sets local i flag how
    → Meets sets p number local i how q → Keeps sets saved t number local latest q
kept_meeting sets saved t p q number local latest i flag meeting.Same d is named m does = inl (draft_same p q number local latest d does)
kept_meeting sets saved t p q number local latest i flag meeting.Take d is named m does =
    let none = m.clean in let some = d.drafted in absurd cc
kept_meeting sets saved t p q number local latest i flag (meeting.Own true) d is named m does =
    let mine = m.meets.drafted in
    let some = d.drafted in
    let e : m.latest ≡ latest = cc in
    inr (inl (record { item = i; flag = flag; is = is; same = subst (λ (v : RowBody). HasContent sets local v i) e m.same }))
kept_meeting sets saved t p q number local latest i flag (meeting.Own false) d is named m does =
    kept_answered sets saved t p number local latest i i.body q d named refl m.same does
kept_meeting sets saved t p q number local latest i flag meeting.GiveWay d is named m does =
    let mine = m.meets.drafted in
    let some = d.drafted in
    let e : latest ≡ row.Deleted = cc in
    inr (inr (inl e))
kept_meeting sets saved t p q number local latest i flag meeting.Fork d is named m (r, copy, takes) =
    kept_forked sets saved t p r q number local latest i d copy takes

-- two rows of one number
kept_met : (sets : Sets) (saved : List Item) (t : Told) (p q : Progress) (number at : ℕ) (local other : LocalItem) (latest : RowBody) (i : Item) (flag : Bool)
    (how : Meeting) → IsDraftOf p number local latest → IsServers saved t i flag → HasItem p.rows i.uuid at other → MeetsAs sets other i flag how
    → Meets sets p at other i how q → ((same_key (key.Local at) (key.Local number) ≡ true) ⊎ (same_key (key.Local at) (key.Local number) ≡ false))
    → Keeps sets saved t number local latest q
kept_met sets saved t p q number at local other latest i flag how d is stands m does (inl same) =
    let keys : key.Local at ≡ key.Local number = (keys_compare (key.Local at) (key.Local number)).0 same in
    let numbers : at ≡ number = cc in
    let here_too : HasLocal p.rows number other = ap p.rows (sym keys) ∙ stands.0 in
    let rows_are : other ≡ local = same_row p.rows number other local here_too d.there in
    let does_here = subst (λ (o : LocalItem). Meets sets p number o i how q) rows_are (subst (λ (n : ℕ). Meets sets p n other i how q) numbers does) in
    let meets_here = subst (λ (o : LocalItem). MeetsAs sets o i flag how) rows_are m in
    let named = sym (ap (λ (o : LocalItem). o.uuid) rows_are) ∙ stands.1 in
    kept_meeting sets saved t p q number local latest i flag how d is named meets_here does_here
kept_met sets saved t p q number at local other latest i flag how d is stands m does (inr apart) =
    let off : key.Local at ≢ key.Local number = λ e. (let yes = (keys_compare (key.Local at) (key.Local number)).1 e in cc) in
    inl (draft_here p q number local latest d
    (past_meeting ⊥ no_rows number local sets p at other i how q off does (here p number local latest d)))

kept_server : (sets : Sets) (saved : List Item) (t : Told) (p q : Progress) (number : ℕ) (local : LocalItem) (latest : RowBody) (i : Item) (flag : Bool)
    → IsDraftOf p number local latest → IsServers saved t i flag → TakesServer sets p i flag q → Keeps sets saved t number local latest q
kept_server sets saved t p q number local latest i flag d is (inl (at, other, how, stands, m, does)) =
    kept_met sets saved t p q number at local other latest i flag how d is stands m does (cases_Bool (same_key (key.Local at) (key.Local number)))
kept_server sets saved t p q number local latest i flag d is (inr (free, makes)) =
    inl (draft_here p q number local latest d (past_new ⊥ no_rows number local sets p i i.body q makes (here p number local latest d)))

-- ---- an item that isn't saved

kept_renamed : (sets : Sets) (saved : List Item) (t : Told) (p q : Progress) (number : ℕ) (local : LocalItem) (latest : RowBody) (found : Option RowBody)
    → IsDraftOf p number local latest → local.latest ≡ found → Renames sets p number local found q → Keeps sets saved t number local latest q
kept_renamed sets saved t p q number local latest None d is m = let some = d.drafted in absurd cc
kept_renamed sets saved t p q number local latest (Some row.Deleted) d is m =
    let some = d.drafted in
    let e : latest ≡ row.Deleted = cc in
    inr (inr (inl e))
kept_renamed sets saved t p q number local latest (Some (row.Sealed strings)) d is (inl (closed, e)) = inl (draft_same p q number local latest d e)
kept_renamed sets saved t p q number local latest (Some (row.Sealed strings)) d is
    (inr (text, uuid, rest, again, left, c, opens, fresh, seals, put, e)) =
    let some = d.drafted in
    let uuid_is : put.local.uuid ≡ uuid = ap (λ (x : Columns). x.uuid) put.columns_are in
    inr (inr (inr (record {
      strings = strings;
      was = cc;
      text = text;
      opened = opens;
      number = number;
      local = put.local;
      stands = ap (λ (z : Progress). z.rows (key.Local number)) e ∙ put_here p.rows c (key.Local number) (value.Local put.local) put.puts;
      again = again;
      drafted = ap (λ (x : Columns). x.latest) put.columns_are;
      content = text;
      content_is = inl refl;
      before = rest;
      left = left;
      seals = subst (λ (u : Bytes). Seals rest sets.present u text again left) (sym uuid_is) seals;
    })))

kept_unsaved : (sets : Sets) (saved : List Item) (t : Told) (p q : Progress) (number : ℕ) (local : LocalItem) (latest : RowBody) (k : Conflict)
    → IsDraftOf p number local latest → TakesUnsaved sets p number local k q → Keeps sets saved t number local latest q
kept_unsaved sets saved t p q number local latest (conflict.Sync server) d m = absurd m
kept_unsaved sets saved t p q number local latest (conflict.Uuid unsaved) d m = kept_renamed sets saved t p q number local latest local.latest d refl m
kept_unsaved sets saved t p q number local latest (conflict.Content unsaved) d (c, put, e) =
    inl (draft_put p q c number _ local.uuid latest put (ap (λ (z : Progress). z.rows) e) refl d.drafted)

kept_unmet : (sets : Sets) (saved : List Item) (t : Told) (p q : Progress) (number at : ℕ) (local other : LocalItem) (latest : RowBody) (uuid : Bytes)
    (k : Conflict) → IsDraftOf p number local latest → HasItem p.rows uuid at other → TakesUnsaved sets p at other k q
    → ((same_key (key.Local at) (key.Local number) ≡ true) ⊎ (same_key (key.Local at) (key.Local number) ≡ false))
    → Keeps sets saved t number local latest q
kept_unmet sets saved t p q number at local other latest uuid k d stands does (inl same) =
    let keys : key.Local at ≡ key.Local number = (keys_compare (key.Local at) (key.Local number)).0 same in
    let numbers : at ≡ number = cc in
    let here_too : HasLocal p.rows number other = ap p.rows (sym keys) ∙ stands.0 in
    let rows_are : other ≡ local = same_row p.rows number other local here_too d.there in
    kept_unsaved sets saved t p q number local latest k d
    (subst (λ (o : LocalItem). TakesUnsaved sets p number o k q) rows_are (subst (λ (n : ℕ). TakesUnsaved sets p n other k q) numbers does))
kept_unmet sets saved t p q number at local other latest uuid k d stands does (inr apart) =
    let off : key.Local at ≢ key.Local number = λ e. (let yes = (keys_compare (key.Local at) (key.Local number)).1 e in cc) in
    inl (draft_here p q number local latest d (past_unsaved ⊥ no_rows number local sets p at other k q off does (here p number local latest d)))

kept_own : (sets : Sets) (saved : List Item) (t : Told) (p q : Progress) (number : ℕ) (local : LocalItem) (latest : RowBody) (uuid : Bytes) (k : Conflict)
    → IsDraftOf p number local latest → TakesOwn sets p uuid k q → Keeps sets saved t number local latest q
kept_own sets saved t p q number local latest uuid k d (inl (at, other, stands, does)) =
    kept_unmet sets saved t p q number at local other latest uuid k d stands does (cases_Bool (same_key (key.Local at) (key.Local number)))
kept_own sets saved t p q number local latest uuid k d (inr (free, e)) = inl (draft_same p q number local latest d e)

kept_conflict : (sets : Sets) (saved : List Item) (p q : Progress) (number : ℕ) (local : LocalItem) (latest : RowBody) (k : Conflict)
    → IsDraftOf p number local latest → TakesConflict sets p k q → Keeps sets saved (is_conflict k) number local latest q
kept_conflict sets saved p q number local latest (conflict.Sync server) d m =
    kept_server sets saved (is_conflict (conflict.Sync server)) p q number local latest server false d (refl, refl) m
kept_conflict sets saved p q number local latest (conflict.Uuid unsaved) d m =
    kept_own sets saved (is_conflict (conflict.Uuid unsaved)) p q number local latest unsaved.uuid (conflict.Uuid unsaved) d m
kept_conflict sets saved p q number local latest (conflict.Content unsaved) d m =
    kept_own sets saved (is_conflict (conflict.Content unsaved)) p q number local latest unsaved.uuid (conflict.Content unsaved) d m

-- ---- all that an answer tells

pub draft_kept : DraftKept
draft_kept sets saved p q (is_saved i) number local latest d m =
    kept_server sets saved (is_saved i) p q number local latest i true d (refl, refl) m
draft_kept sets saved p q (is_conflict k) number local latest d m = kept_conflict sets saved p q number local latest k d m
draft_kept sets saved p q (is_retrieved i) number local latest d (inl (again, e)) = inl (draft_same p q number local latest d e)
draft_kept sets saved p q (is_retrieved i) number local latest d (inr (first, m)) =
    kept_server sets saved (is_retrieved i) p q number local latest i false d (refl, refl, first) m

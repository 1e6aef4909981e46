-- Each step leaves the drafts of a sound device open.
use Rattle.std.proofs.Common.{◌≡◌, ◌≢◌, ℕ, List, [], ◌∷◌, Option, Some, None, refl, sym, ap, ◌∙◌, subst}
use Rattle.std.specs.List.{AllZip}
use Rattle.std.specs.Prelude.{IsSome}
use Rattle.rand_chacha.specs.ChaCha.{ChaCha}
use Rattle.sn_items.specs.Items.{OpensItem}
use Rattle.sn_rows.specs.Facts.{put_apart}
use Rattle.sn_rows.specs.Table.{Rows, key_of, rows_after}
use Rattle.sn_rows.specs.declared.body.RowBody.TheVariants as row
use Rattle.sn_rows.specs.declared.body.RowStrings.{RowStrings}
use Rattle.sn_rows.specs.declared.change.Change.{Change}
use Rattle.sn_rows.specs.declared.device_rows.LocalItem.{LocalItem}
use Rattle.sn_rows.specs.declared.device_rows.OwnerRow.{OwnerRow}
use Rattle.sn_rows.specs.declared.device_rows.SetRow.{SetRow}
use Rattle.sn_rows.specs.declared.key.Key.TheVariants as key
use Rattle.sn_rows.specs.declared.key.Slot.{Slot}
use Rattle.sn_rows.specs.declared.key.Slot.TheVariants.{Asked, Older, Present}
use Rattle.sn_rows.specs.declared.value.Value.TheVariants as value
use Rattle.sn_sets.specs.Sets.{sealed_of}
use Rattle.sn_sets.specs.declared.sets.Sets.{Sets}
use Rattle.sn_string.specs.declared.params.KeySet.{KeySet}
use Rattle.sn_string.proofs.Facts.{same_keys}
use Rattle.sn_string.specs.Bounds.{IsIdentifier}
use Rattle.sn_sync.specs.declared.answer.Answer.{Answer}
use Rattle.sn_sync.specs.declared.answer.Answer.TheVariants as answer
use Rattle.sn_sync.specs.declared.item.Item.{Item}
use Rattle.sn_sync.specs.declared.request.Request.{Request}
use Rattle.sn_sync.specs.declared.request.Request.TheVariants as request
use Rattle.sn_device.specs.Laws.{StepsStaySoundDevice}
use Rattle.sn_device.specs.Sending.{Posts, as_posted}
use Rattle.sn_device.specs.States.{Bytes, Columns, HasLocal, HasOwner, HasSet, HasSets, IsInSlot, IsOwnDraft, IsSetOf, IsSoundDevice, columns}
use Rattle.sn_device.specs.Steps.{Adopts, AppliesAnswer, AppliesTo, Asks, Deletes, Edits, Forgets, PutsNew, Renews, Step, What, adopts, applies, asks, begins, deletes, drafted, edits, forgets, posts, puts, renews}
use Rattle.sn_device.proofs.AdoptRows.{adopted, adopted_sets, sets_adopted}
use Rattle.sn_device.proofs.AdoptSound.{adopted_own, past_asked}
use Rattle.sn_device.proofs.Frames.{Keeps, Parts, beside, item_after, one_owner, parts_keep}
use Rattle.sn_device.proofs.SoundSteps.{begin_empty, steps_stay_sound}
use Rattle.sn_device.proofs.Standing.{Stand}
use Rattle.sn_device.proofs.Lengths.{lengths}
use Rattle.sn_device.proofs.StepStands.{apply_parts, apply_stands, delete_parts, delete_stands, edit_parts, edit_stands, new_stands, post_parts, post_stands, put_parts, renew_parts}
use Rattle.sn_device.proofs.Well.{own_kept}

-- ---- the user's changes of an item

edited_own : (present : KeySet) (text : Bytes) (strings : RowStrings) (cs : Columns) → cs.latest ≢ Some row.Deleted
    → OpensItem (sealed_of strings) cs.uuid present text → IsOwnDraft present cs → IsOwnDraft present (drafted (Some (row.Sealed strings)) cs)
edited_own present text strings cs undeleted opens own =
    record { latest_opens = (text, opens); posted_opens = own.posted_opens; deleted = λ e. absurd (undeleted (own.deleted e)) }

deleted_own : (present : KeySet) (cs : Columns) → IsOwnDraft present cs → IsOwnDraft present (drafted (Some row.Deleted) cs)
deleted_own present cs own = record { latest_opens = tt; posted_opens = own.posted_opens; deleted = λ e. refl }

posted_own : (present : KeySet) (cs : Columns) → IsSome cs.latest → IsOwnDraft present cs → IsOwnDraft present (as_posted cs)
posted_own present cs some own = record { latest_opens = own.latest_opens; posted_opens = own.latest_opens; deleted = λ e. e }

-- ---- the sets before and after

one_row : (rows : Rows) (slot : Slot) (a b : SetRow) → HasSet rows slot a → HasSet rows slot b → a ≡ b
one_row rows slot a b h k = cc

pub one_set : (rows : Rows) (identifier : Bytes) (slot : Slot) (a b : KeySet) → IsInSlot rows identifier slot (Some a) → IsInSlot rows identifier slot (Some b)
    → a ≡ b
one_set rows identifier slot a b (keys, has, of) (others, had, is) =
    let same : keys ≡ others = one_row rows slot keys others has had in
    let too : IsSetOf identifier others a = subst (λ (k : SetRow). IsSetOf identifier k a) same of in
    same_keys a b (too.identifier_is ∙ sym is.identifier_is) (too.cost ∙ sym is.cost) (too.nonce ∙ sym is.nonce) (too.pw ∙ sym is.pw) (too.mk ∙ sym is.mk)
    (too.ak ∙ sym is.ak)

pub slot_back : (rows after : Rows) (slot : Slot) (from to : Bytes) (found : Option KeySet) → after (key.Set slot) ≡ rows (key.Set slot) → from ≡ to
    → IsInSlot after from slot found → IsInSlot rows to slot found
slot_back rows after slot from to None same named is = sym same ∙ is
slot_back rows after slot from to (Some set) same named (keys, has, of) =
    (keys, sym same ∙ has, subst (λ (i : Bytes). IsSetOf i keys set) named of)

pub one_slot : (rows : Rows) (identifier : Bytes) (slot : Slot) (a b : Option KeySet) → IsInSlot rows identifier slot a → IsInSlot rows identifier slot b → a ≡ b
one_slot rows identifier slot None None h k = refl
one_slot rows identifier slot None (Some b) none (keys, has, of) = absurd cc
one_slot rows identifier slot (Some a) None (keys, has, of) none = absurd cc
one_slot rows identifier slot (Some a) (Some b) h k = ap Some (one_set rows identifier slot a b h k)

-- rows have one account with its sets
pub one_sets : (rows : Rows) (a b : OwnerRow) (x y : Sets) → HasSets rows a x → HasSets rows b y → x ≡ y
one_sets rows a b x y h k =
    let named : b.identifier ≡ a.identifier = ap (λ (o : OwnerRow). o.identifier) (one_owner rows b a k.owned h.owned) in
    let present : x.present ≡ y.present =
    one_set rows a.identifier Present x.present y.present h.in_use (slot_back rows rows Present b.identifier a.identifier (Some y.present) refl named k.in_use) in
    let older : x.older ≡ y.older =
    one_slot rows a.identifier Older x.older y.older h.before (slot_back rows rows Older b.identifier a.identifier y.older refl named k.before) in
    let asked : x.asked ≡ y.asked =
    one_slot rows a.identifier Asked x.asked y.asked h.wanted (slot_back rows rows Asked b.identifier a.identifier y.asked refl named k.wanted) in
    λ i. record { present = present i; older = older i; asked = asked i }

pub named_alike : (rows after : Rows) (owner later any : OwnerRow) → Keeps rows after owner later → HasOwner after any → any.identifier ≡ owner.identifier
named_alike rows after owner later any keeps has = ap (λ (o : OwnerRow). o.identifier) (one_owner after any later has keeps.owned) ∙ keeps.identified

-- where the older set stays too, the sets after were those before
sets_back : (rows after : Rows) (owner later any : OwnerRow) (sets : Sets) → HasOwner rows owner → Keeps rows after owner later
    → after (key.Set Older) ≡ rows (key.Set Older) → HasSets after any sets → HasSets rows owner sets
sets_back rows after owner later any sets owned keeps same has =
    let named = named_alike rows after owner later any keeps has.owned in
    record {
      owned = owned;
      in_use = slot_back rows after Present any.identifier owner.identifier (Some sets.present) keeps.present named has.in_use;
      before = slot_back rows after Older any.identifier owner.identifier sets.older same named has.before;
      wanted = slot_back rows after Asked any.identifier owner.identifier sets.asked keeps.asked named has.wanted;
    }

pub present_back : (rows after : Rows) (owner later any : OwnerRow) (held sets : Sets) → Keeps rows after owner later → HasSets rows owner held
    → HasSets after any sets → held.present ≡ sets.present
present_back rows after owner later any held sets keeps had has =
    let named = named_alike rows after owner later any keeps has.owned in
    one_set rows owner.identifier Present held.present sets.present had.in_use
    (slot_back rows after Present any.identifier owner.identifier (Some sets.present) keeps.present named has.in_use)

-- ---- each step

abbrev AreOwn : Rows → Type 0
AreOwn rows = (owner : OwnerRow) (sets : Sets) (number : ℕ) (local : LocalItem) → HasSets rows owner sets → HasLocal rows number local
    → IsOwnDraft sets.present (columns local)

own_stands : (rows : Rows) (owner : OwnerRow) (sets : Sets) → IsSoundDevice rows → HasSets rows owner sets → Stand (IsOwnDraft sets.present) owner.next rows
own_stands rows owner sets device has = record {
  numbered = λ n l found. device.sound.locals.numbered owner n l has.owned found;
  apart = device.sound.locals.apart;
  items = λ n l found. device.drafts owner sets n l has found;
}

-- the sets that are held before a commit, and the items after it
own_after : (rows : Rows) (changes : List Change) (x : Parts rows changes) (held : Sets) → HasSets rows x.owner held
    → Stand (IsOwnDraft held.present) x.next (rows_after rows x.items) → AreOwn (rows_after rows changes)
own_after rows changes x held had stand owner sets n l has found =
    subst (λ (set : KeySet). IsOwnDraft set (columns l))
    (present_back rows (rows_after rows changes) x.owner x.ends.later owner held sets (parts_keep rows changes x) had has)
    (stand.items n l (item_after rows changes x n l found))

renew_own : (rows : Rows) (token : Bytes) (changes : List Change) → IsSoundDevice rows → Renews rows token changes → AreOwn (rows_after rows changes)
renew_own rows token changes device r owner sets n l has found =
    let x = renew_parts rows token changes r in
    let same : rows_after rows changes (key.Set Older) ≡ rows (key.Set Older) =
    ap (λ (cs : List Change). rows_after rows cs (key.Set Older)) r.changes_are
    ∙ put_apart rows r.change key.Owner (key.Set Older) (value.Owner r.renewed.owner) r.renewed.puts_it refl in
    let held = sets_back rows (rows_after rows changes) r.owner x.ends.later owner sets r.owned (parts_keep rows changes x) same has in
    own_after rows changes x sets held (own_stands rows r.owner sets device held) owner sets n l has found

put_own : (rows : Rows) (words left : ChaCha) (uuid kind text : Bytes) (changes : List Change) → IsSoundDevice rows
    → PutsNew rows words uuid kind text changes left → AreOwn (rows_after rows changes)
put_own rows words left uuid kind text changes device s =
    own_after rows changes (put_parts rows words left uuid kind text changes s) s.sets s.holds
    (new_stands (IsOwnDraft s.sets.present) rows words left uuid kind text changes s (own_kept s.sets rows) (own_stands rows s.owner s.sets device s.holds))

edit_own : (rows : Rows) (words left : ChaCha) (uuid text : Bytes) (changes : List Change) → IsSoundDevice rows
    → Edits rows words uuid text changes left → AreOwn (rows_after rows changes)
edit_own rows words left uuid text changes device s =
    own_after rows changes (edit_parts rows words left uuid text changes s) s.sets s.holds
    (edit_stands (IsOwnDraft s.sets.present) rows words left uuid text changes s
    (λ cs undeleted opens own. edited_own s.sets.present text s.strings cs undeleted opens own)
    (own_stands rows s.owner s.sets device s.holds))

delete_own : (rows : Rows) (uuid : Bytes) (changes : List Change) → IsSoundDevice rows → Deletes rows uuid changes → AreOwn (rows_after rows changes)
delete_own rows uuid changes device s owner sets n l has found =
    let own = device.sound.owner (key.Local s.number) (value.Local s.local) s.stands.0 in
    let x = delete_parts rows own.0 uuid changes own.1 s in
    let held = sets_back rows (rows_after rows changes) own.0 x.ends.later owner sets own.1 (parts_keep rows changes x)
    (beside rows changes (key.Set Older) x.of_items (λ e. cc)) has in
    own_after rows changes x sets held
    (delete_stands (IsOwnDraft sets.present) own.0.next rows uuid changes s (deleted_own sets.present) (own_stands rows own.0 sets device held))
    owner sets n l has found

post_own : (rows : Rows) (numbers : List ℕ) (changes : List Change) → IsSoundDevice rows → AllZip (Posts rows) numbers changes
    → AreOwn (rows_after rows changes)
post_own rows [] [] device all = device.drafts
post_own rows [] (c ∷ changes) device all = absurd all
post_own rows (at ∷ numbers) [] device all = absurd all
post_own rows (at ∷ numbers) (c ∷ changes) device all = λ owner sets n l has found.
    let p : Posts rows at c = all.0 in
    let own = device.sound.owner (key.Local at) (value.Local p.local) p.stands in
    let x = post_parts rows own.0 (at ∷ numbers) (c ∷ changes) own.1 all in
    let held = sets_back rows (rows_after rows (c ∷ changes)) own.0 x.ends.later owner sets own.1 (parts_keep rows (c ∷ changes) x)
    (beside rows (c ∷ changes) (key.Set Older) x.of_items (λ e. cc)) has in
    own_after rows (c ∷ changes) x sets held
    (post_stands (IsOwnDraft sets.present) own.0.next rows (at ∷ numbers) (c ∷ changes) (posted_own sets.present) all (own_stands rows own.0 sets device held))
    owner sets n l has found

answer_own : (rows : Rows) (words left : ChaCha) (sent : List Item) (given : Answer) (changes : List Change) → IsSoundDevice rows
    → AppliesAnswer rows words sent given changes left → AreOwn (rows_after rows changes)
answer_own rows words left sent (answer.Sync conflicts cursor retrieved saved token) changes device s =
    own_after rows changes (apply_parts rows words left sent conflicts cursor retrieved saved token changes s) s.sets s.holds
    (apply_stands rows words left sent conflicts cursor retrieved saved token changes s (IsOwnDraft s.sets.present) (own_kept s.sets)
    (own_stands rows s.owner s.sets device s.holds))
answer_own rows words left sent (answer.Account token identifier account) changes device s = absurd s
answer_own rows words left sent (answer.Params params) changes device s = absurd s
answer_own rows words left sent (answer.Refused status tag more) changes device s = absurd s

apply_own : (rows : Rows) (words left : ChaCha) (r : Request) (given : Answer) (changes : List Change) → IsSoundDevice rows
    → AppliesTo rows words r given changes left → AreOwn (rows_after rows changes)
apply_own rows words left (request.Sync token items limit sync_token cursor_token) given changes device s =
    answer_own rows words left items given changes device s
apply_own rows words left (request.Register params pw) given changes device s = absurd s
apply_own rows words left (request.Params identifier) given changes device s = absurd s
apply_own rows words left (request.SignIn identifier pw) given changes device s = absurd s
apply_own rows words left (request.ChangePw token current pw cost nonce) given changes device s = absurd s

-- the set that is asked for is another, or none
asked_own : (rows : Rows) (mine : OwnerRow) (held : Sets) (c : Change) → IsSoundDevice rows → HasSets rows mine held → key_of c ≡ key.Set Asked
    → AreOwn (rows_after rows (c ∷ []))
asked_own rows mine held c device had of owner sets n l has found =
    let own : HasOwner (rows_after rows (c ∷ [])) mine = past_asked rows c key.Owner of (λ e. cc) ∙ had.owned in
    let named : owner.identifier ≡ mine.identifier =
    ap (λ (o : OwnerRow). o.identifier) (one_owner (rows_after rows (c ∷ [])) owner mine has.owned own) in
    let same : held.present ≡ sets.present =
    one_set rows mine.identifier Present held.present sets.present had.in_use
    (slot_back rows (rows_after rows (c ∷ [])) Present owner.identifier mine.identifier (Some sets.present) (past_asked rows c (key.Set Present) of (λ e. cc))
    named has.in_use) in
    subst (λ (set : KeySet). IsOwnDraft set (columns l)) same
    (device.drafts mine held n l had (sym (past_asked rows c (key.Local n) of (λ e. cc)) ∙ found))

ask_own : (rows : Rows) (set : KeySet) (changes : List Change) → IsSoundDevice rows → Asks rows set changes → AreOwn (rows_after rows changes)
ask_own rows set changes device s =
    subst (λ (cs : List Change). AreOwn (rows_after rows cs)) (sym s.changes_are)
    (asked_own rows s.owner s.sets s.change device s.holds s.put.puts.key_is)

-- a set's row has the keys of a set
set_of_row : (identifier : Bytes) → IsIdentifier identifier → (keys : SetRow) → (set : KeySet) × IsSetOf identifier keys set
set_of_row identifier fits keys = (
  record {
    params = record {
      identifier = identifier;
      pw_cost = keys.pw_cost;
      pw_nonce = keys.pw_nonce;
      identifier_fits = fits;
      cost_fits = (keys.cost_fits, keys.cost_bounded);
      nonce_fits = lengths 1 256 keys.pw_nonce keys.nonce_fits;
    };
    pw = keys.pw;
    mk = keys.mk;
    ak = keys.ak;
  },
  record { identifier_is = refl; cost = refl; nonce = refl; pw = refl; mk = refl; ak = refl },
)

-- the sets after the one that was asked for is dropped are those before it without that one
pub sets_before : (rows : Rows) (changes : List Change) (owner mine : OwnerRow) (sets : Sets) → (f : Forgets rows changes) → HasOwner rows mine
    → HasSets (rows_after rows (f.change ∷ [])) owner sets
    → (held : Sets) × HasSets rows mine held × (held.present ≡ sets.present) × (held.older ≡ sets.older)
sets_before rows changes owner mine sets f owned has =
    let of = f.removes.key_is in
    let after : Rows = rows_after rows (f.change ∷ []) in
    let own : HasOwner after mine = past_asked rows f.change key.Owner of (λ e. cc) ∙ owned in
    let named : owner.identifier ≡ mine.identifier = ap (λ (o : OwnerRow). o.identifier) (one_owner after owner mine has.owned own) in
    let fits : IsIdentifier mine.identifier = subst IsIdentifier (has.in_use.2.identifier_is ∙ named) sets.present.params.identifier_fits in
    let made = set_of_row mine.identifier fits f.asked in (
      record { present = sets.present; older = sets.older; asked = Some made.0 },
      record {
        owned = owned;
        in_use = slot_back rows after Present owner.identifier mine.identifier (Some sets.present) (past_asked rows f.change (key.Set Present) of (λ e. cc)) named
            has.in_use;
        before = slot_back rows after Older owner.identifier mine.identifier sets.older (past_asked rows f.change (key.Set Older) of (λ e. cc)) named has.before;
        wanted = (f.asked, f.stands, made.1);
      },
      refl,
      refl,
    )

forget_own : (rows : Rows) (changes : List Change) → IsSoundDevice rows → Forgets rows changes → AreOwn (rows_after rows changes)
forget_own rows changes device f =
    subst (λ (cs : List Change). AreOwn (rows_after rows cs)) (sym f.changes_are) (λ owner sets n l has found.
    (let mine = device.sound.owner (key.Set Asked) (value.Set f.asked) f.stands in
    let before = sets_before rows changes owner mine.0 sets f mine.1 has in
    asked_own rows mine.0 before.0 f.change device before.1 f.removes.key_is owner sets n l has found))

adopt_own : (rows : Rows) (words left : ChaCha) (set : KeySet) (token : Bytes) (changes : List Change) → IsSoundDevice rows
    → Adopts rows words set token changes left → AreOwn (rows_after rows changes)
adopt_own rows words left set token changes device a owner sets n l has found =
    let d = adopted rows words left set token changes a in
    let after : HasSets (rows_after rows changes) d.later (sets_adopted a.sets set) =
    adopted_sets rows a.sets set token a.owner (rows_after rows changes) d in
    let same : sets_adopted a.sets set ≡ sets = one_sets (rows_after rows changes) d.later owner (sets_adopted a.sets set) sets after has in
    let old = d.items n l found in
    subst (λ (held : Sets). IsOwnDraft held.present (columns l)) same (adopted_own a.sets set old.0 l old.2 (device.drafts a.owner a.sets n old.0 a.holds old.1))

drafts_after : (rows : Rows) (words left : ChaCha) (what : What) (changes : List Change) → IsSoundDevice rows → Step rows words what changes left
    → AreOwn (rows_after rows changes)
drafts_after rows words left (begins set account token) changes device step = λ owner sets n l has found.
    absurd (begin_empty rows step.0 set account token changes step.1 n l found)
drafts_after rows words left (renews token) changes device step = renew_own rows token changes device step.0
drafts_after rows words left (puts uuid kind text) changes device step = put_own rows words left uuid kind text changes device step
drafts_after rows words left (edits uuid text) changes device step = edit_own rows words left uuid text changes device step
drafts_after rows words left (deletes uuid) changes device step = delete_own rows uuid changes device step.0
drafts_after rows words left (posts numbers) changes device step = post_own rows numbers changes device step.0
drafts_after rows words left (applies r given) changes device step = apply_own rows words left r given changes device step
drafts_after rows words left (asks set) changes device step = ask_own rows set changes device step.0
drafts_after rows words left (adopts set token) changes device step = adopt_own rows words left set token changes device step
drafts_after rows words left forgets changes device step = forget_own rows changes device step.0

pub steps_stay_sound_device : StepsStaySoundDevice
steps_stay_sound_device rows words left what changes device step = record {
  sound = steps_stay_sound rows words left what changes device.sound step;
  drafts = drafts_after rows words left what changes device step;
}

-- What commits leave of the lengths in a device's rows.
use Rattle.std.proofs.Common.{◌≡◌, ◌≢◌, ◌⊎◌, ℕ, List, [], ◌∷◌, Option, Some, None, refl, sym, ◌∙◌, subst, inl, inr}
use Rattle.std.specs.List.{AllZip}
use Rattle.rand_chacha.specs.ChaCha.{ChaCha}
use Rattle.sn_items.specs.Opens.{NamesItem}
use Rattle.sn_rows.specs.Facts.{neither_put, put_here, removed_here, second_put}
use Rattle.sn_rows.specs.Table.{Rows, key_of, no_rows, rows_after}
use Rattle.sn_rows.specs.declared.change.Change.{Change}
use Rattle.sn_rows.specs.declared.device_rows.OwnerRow.{OwnerRow}
use Rattle.sn_rows.specs.declared.device_rows.SetRow.{SetRow}
use Rattle.sn_rows.specs.declared.key.Key.{Key}
use Rattle.sn_rows.specs.declared.key.Key.TheVariants as key
use Rattle.sn_rows.specs.declared.key.Slot.{Slot}
use Rattle.sn_rows.specs.declared.key.Slot.TheVariants.{Asked, Older, Present}
use Rattle.sn_rows.specs.declared.value.Value.{Value}
use Rattle.sn_rows.specs.declared.value.Value.TheVariants as value
use Rattle.sn_sets.specs.declared.sets.Sets.{Sets}
use Rattle.sn_string.specs.Grammar.{Reading}
use Rattle.sn_string.specs.declared.params.KeySet.{KeySet}
use Rattle.sn_sync.specs.Fits.{AreBytes}
use Rattle.sn_sync.specs.declared.answer.Answer.{Answer}
use Rattle.sn_sync.specs.declared.answer.Answer.TheVariants as answer
use Rattle.sn_sync.specs.declared.item.Item.{Item}
use Rattle.sn_sync.specs.declared.request.Request.{Request}
use Rattle.sn_sync.specs.declared.request.Request.TheVariants as request
use Rattle.sn_device.specs.Laws.{FreshIsSound, StepsStaySound}
use Rattle.sn_device.specs.Sending.{Posts}
use Rattle.sn_device.specs.States.{Bytes, Columns, HasLocal, HasOwner, HasSet, IsFresh, IsInSlot, IsSound}
use Rattle.sn_device.specs.Steps.{Adopts, AppliesAnswer, AppliesTo, Asks, BeginsDevice, Deletes, Forgets, Step, What, adopts, applies, asks, begins, deletes, edits, forgets, posts, puts, renews}
use Rattle.sn_device.proofs.Facts.{IsKept, Parts, Stand, adopted, apply_parts, apply_stands, begin_empty, delete_parts, delete_stands, edit_parts, edit_stands, item_after, new_stands, parts_keep, past_asked, post_parts, post_stands, put_parts, renew_parts}
use Rattle.sn_world.specs.Fitting.{FitsPasswords, FitsUuids, FitsWhat, FreshFits, StepsFit, StepsFitUuids}

-- ---- uuids: a row's uuid is one that a string names, or a former row's

-- a string names a uuid of 16 bytes alone
named_fits : (uuid text : Bytes) → ((reading : Reading) × NamesItem text reading uuid) → AreBytes 16 uuid
named_fits uuid text (reading, names) = (names.uuid_is.count, names.uuid_is.fit)

abbrev HasUuid : Columns → Type 0
HasUuid c = AreBytes 16 c.uuid

uuid_kept : (sets : Sets) (rows : Rows) → IsKept HasUuid sets rows
uuid_kept sets rows = record {
  taken = λ words left i content enc cs checked on. subst (AreBytes 16) (sym on.uuid_is) (named_fits i.uuid content checked.0.1);
  answered = λ words left local i content enc cs checked same kind has on.
      subst (AreBytes 16) (sym on.uuid_is) (named_fits i.uuid content checked.0.1);
  new = λ uuid kind text strings free opens. named_fits uuid strings.content (opens.opens.reading, opens.opens.authentic.names);
  unsent = λ cs has. has;
}

uuids_stand : (rows : Rows) (owner : OwnerRow) → IsSound rows → HasOwner rows owner → FitsUuids rows → Stand HasUuid owner.next rows
uuids_stand rows owner sound owned fits = record {
  numbered = λ n l found. sound.locals.numbered owner n l owned found;
  apart = sound.locals.apart;
  items = λ n l found. fits n l found;
}

-- behind a commit of items and then of the rest
from_parts : (rows : Rows) (changes : List Change) → (x : Parts rows changes) → Stand HasUuid x.next (rows_after rows x.items) → FitsUuids (rows_after rows changes)
from_parts rows changes x stand n l found = stand.items n l (item_after rows changes x n l found)

post_uuids : (rows : Rows) (numbers : List ℕ) (changes : List Change) → IsSound rows → FitsUuids rows → AllZip (Posts rows) numbers changes
    → FitsUuids (rows_after rows changes)
post_uuids rows [] [] sound fits all = fits
post_uuids rows [] (c ∷ changes) sound fits all = absurd all
post_uuids rows (at ∷ numbers) [] sound fits all = absurd all
post_uuids rows (at ∷ numbers) (c ∷ changes) sound fits all =
    let p : Posts rows at c = all.0 in
    let has = sound.owner (key.Local at) (value.Local p.local) p.stands in
    from_parts rows (c ∷ changes) (post_parts rows has.0 (at ∷ numbers) (c ∷ changes) has.1 all)
    (post_stands HasUuid has.0.next rows (at ∷ numbers) (c ∷ changes) (λ cs some uuid. uuid) all (uuids_stand rows has.0 sound has.1 fits))

delete_uuids : (rows : Rows) (uuid : Bytes) (changes : List Change) → IsSound rows → FitsUuids rows → Deletes rows uuid changes
    → FitsUuids (rows_after rows changes)
delete_uuids rows uuid changes sound fits s =
    let has = sound.owner (key.Local s.number) (value.Local s.local) s.stands.0 in
    from_parts rows changes (delete_parts rows has.0 uuid changes has.1 s)
    (delete_stands HasUuid has.0.next rows uuid changes s (λ cs own. own) (uuids_stand rows has.0 sound has.1 fits))

answer_uuids : (rows : Rows) (words left : ChaCha) (sent : List Item) (given : Answer) (changes : List Change) → IsSound rows → FitsUuids rows
    → AppliesAnswer rows words sent given changes left → FitsUuids (rows_after rows changes)
answer_uuids rows words left sent (answer.Sync conflicts cursor retrieved saved token) changes sound fits s =
    from_parts rows changes (apply_parts rows words left sent conflicts cursor retrieved saved token changes s)
    (apply_stands rows words left sent conflicts cursor retrieved saved token changes s HasUuid (uuid_kept s.sets)
    (uuids_stand rows s.owner sound s.holds.owned fits))
answer_uuids rows words left sent (answer.Account token identifier account) changes sound fits s = absurd s
answer_uuids rows words left sent (answer.Params params) changes sound fits s = absurd s
answer_uuids rows words left sent (answer.Refused status tag more) changes sound fits s = absurd s

apply_uuids : (rows : Rows) (words left : ChaCha) (r : Request) (given : Answer) (changes : List Change) → IsSound rows → FitsUuids rows
    → AppliesTo rows words r given changes left → FitsUuids (rows_after rows changes)
apply_uuids rows words left (request.Sync token items limit sync_token cursor_token) given changes sound fits s =
    answer_uuids rows words left items given changes sound fits s
apply_uuids rows words left (request.Register params pw) given changes sound fits s = absurd s
apply_uuids rows words left (request.Params identifier) given changes sound fits s = absurd s
apply_uuids rows words left (request.SignIn identifier pw) given changes sound fits s = absurd s
apply_uuids rows words left (request.ChangePw token current pw cost nonce) given changes sound fits s = absurd s

-- a change of the set that is asked for leaves the items
asked_uuids : (rows : Rows) (c : Change) (changes : List Change) → key_of c ≡ key.Set Asked → changes ≡ c ∷ [] → FitsUuids rows
    → FitsUuids (rows_after rows changes)
asked_uuids rows c changes named is fits n l found =
    fits n l (sym (past_asked rows c (key.Local n) named (λ e. cc)) ∙ subst (λ (cs : List Change). HasLocal (rows_after rows cs) n l) is found)

adopt_uuids : (rows : Rows) (words left : ChaCha) (set : KeySet) (token : Bytes) (changes : List Change) → FitsUuids rows
    → Adopts rows words set token changes left → FitsUuids (rows_after rows changes)
adopt_uuids rows words left set token changes fits a n l found =
    let old = (adopted rows words left set token changes a).items n l found in
    subst (AreBytes 16) (sym old.2.rekeys.uuid_is) (fits n old.0 old.1)

pub steps_fit_uuids : StepsFitUuids
steps_fit_uuids rows words left (begins set account token) changes sound fits step =
    λ n l found. absurd (begin_empty rows step.0 set account token changes step.1 n l found)
steps_fit_uuids rows words left (renews token) changes sound fits step =
    from_parts rows changes (renew_parts rows token changes step.0) (uuids_stand rows step.0.owner sound step.0.owned fits)
steps_fit_uuids rows words left (puts uuid kind text) changes sound fits step =
    from_parts rows changes (put_parts rows words left uuid kind text changes step)
    (new_stands HasUuid rows words left uuid kind text changes step (uuid_kept step.sets rows) (uuids_stand rows step.owner sound step.holds.owned fits))
steps_fit_uuids rows words left (edits uuid text) changes sound fits step =
    from_parts rows changes (edit_parts rows words left uuid text changes step)
    (edit_stands HasUuid rows words left uuid text changes step (λ cs undeleted opens own. own) (uuids_stand rows step.owner sound step.holds.owned fits))
steps_fit_uuids rows words left (deletes uuid) changes sound fits step = delete_uuids rows uuid changes sound fits step.0
steps_fit_uuids rows words left (posts numbers) changes sound fits step = post_uuids rows numbers changes sound fits step.0
steps_fit_uuids rows words left (applies r given) changes sound fits step = apply_uuids rows words left r given changes sound fits step
steps_fit_uuids rows words left (asks set) changes sound fits step =
    asked_uuids rows step.0.change changes step.0.put.puts.key_is step.0.changes_are fits
steps_fit_uuids rows words left (adopts set token) changes sound fits step = adopt_uuids rows words left set token changes fits step
steps_fit_uuids rows words left forgets changes sound fits step =
    asked_uuids rows step.0.change changes step.0.removes.key_is step.0.changes_are fits

-- ---- the server's passwords of sets

one_set : (a b : SetRow) (found : Option Value) → found ≡ Some (value.Set a) → found ≡ Some (value.Set b) → a ≡ b
one_set a b found e k = cc

-- of a set in a slot
pub slot_fits : (rows : Rows) (identifier : Bytes) (slot : Slot) (set : KeySet) → FitsPasswords rows → IsInSlot rows identifier slot (Some set) → AreBytes 32 set.pw
slot_fits rows identifier slot set fits (keys, has, of) = subst (AreBytes 32) (sym of.pw) (fits slot keys has)

-- and of the row of such a one
row_fits : (rows : Rows) (identifier : Bytes) (slot : Slot) (set : KeySet) (keys : SetRow) → AreBytes 32 set.pw → IsInSlot rows identifier slot (Some set)
    → HasSet rows slot keys → AreBytes 32 keys.pw
row_fits rows identifier slot set keys fits (own, has, of) found =
    let same : own ≡ keys = one_set own keys (rows (key.Set slot)) has found in
    subst (λ (k : SetRow). AreBytes 32 k.pw) same (subst (AreBytes 32) of.pw fits)

no_set : (keys : SetRow) (found : Option Value) → found ≡ None → found ≡ Some (value.Set keys) → ⊥
no_set keys found none is = cc

older_fits : (rows : Rows) (found : Option Value) (keys : SetRow) → FitsPasswords rows → ((found ≡ rows (key.Set Older)) ⊎ (found ≡ None))
    → found ≡ Some (value.Set keys) → AreBytes 32 keys.pw
older_fits rows found keys fits (inl same) has = fits Older keys (sym same ∙ has)
older_fits rows found keys fits (inr none) has = absurd (no_set keys found none has)

-- behind a commit that puts no set
kept_passwords : (rows : Rows) (changes : List Change) → Parts rows changes → FitsPasswords rows → FitsPasswords (rows_after rows changes)
kept_passwords rows changes x fits Present keys has = fits Present keys (sym (parts_keep rows changes x).present ∙ has)
kept_passwords rows changes x fits Asked keys has = fits Asked keys (sym (parts_keep rows changes x).asked ∙ has)
kept_passwords rows changes x fits Older keys has =
    older_fits rows (rows_after rows changes (key.Set Older)) keys fits (parts_keep rows changes x).older has

post_passwords : (rows : Rows) (numbers : List ℕ) (changes : List Change) → IsSound rows → FitsPasswords rows → AllZip (Posts rows) numbers changes
    → FitsPasswords (rows_after rows changes)
post_passwords rows [] [] sound fits all = fits
post_passwords rows [] (c ∷ changes) sound fits all = absurd all
post_passwords rows (at ∷ numbers) [] sound fits all = absurd all
post_passwords rows (at ∷ numbers) (c ∷ changes) sound fits all =
    let p : Posts rows at c = all.0 in
    let has = sound.owner (key.Local at) (value.Local p.local) p.stands in
    kept_passwords rows (c ∷ changes) (post_parts rows has.0 (at ∷ numbers) (c ∷ changes) has.1 all) fits

delete_passwords : (rows : Rows) (uuid : Bytes) (changes : List Change) → IsSound rows → FitsPasswords rows → Deletes rows uuid changes
    → FitsPasswords (rows_after rows changes)
delete_passwords rows uuid changes sound fits s =
    let has = sound.owner (key.Local s.number) (value.Local s.local) s.stands.0 in
    kept_passwords rows changes (delete_parts rows has.0 uuid changes has.1 s) fits

answer_passwords : (rows : Rows) (words left : ChaCha) (sent : List Item) (given : Answer) (changes : List Change) → FitsPasswords rows
    → AppliesAnswer rows words sent given changes left → FitsPasswords (rows_after rows changes)
answer_passwords rows words left sent (answer.Sync conflicts cursor retrieved saved token) changes fits s =
    kept_passwords rows changes (apply_parts rows words left sent conflicts cursor retrieved saved token changes s) fits
answer_passwords rows words left sent (answer.Account token identifier account) changes fits s = absurd s
answer_passwords rows words left sent (answer.Params params) changes fits s = absurd s
answer_passwords rows words left sent (answer.Refused status tag more) changes fits s = absurd s

apply_passwords : (rows : Rows) (words left : ChaCha) (r : Request) (given : Answer) (changes : List Change) → FitsPasswords rows
    → AppliesTo rows words r given changes left → FitsPasswords (rows_after rows changes)
apply_passwords rows words left (request.Sync token items limit sync_token cursor_token) given changes fits s =
    answer_passwords rows words left items given changes fits s
apply_passwords rows words left (request.Register params pw) given changes fits s = absurd s
apply_passwords rows words left (request.Params identifier) given changes fits s = absurd s
apply_passwords rows words left (request.SignIn identifier pw) given changes fits s = absurd s
apply_passwords rows words left (request.ChangePw token current pw cost nonce) given changes fits s = absurd s

-- the first rows
module _ (rows : Rows) (fresh : IsFresh rows) (set : KeySet) (account token : Bytes) (changes : List Change) (b : BeginsDevice set account token changes)
    (fits : AreBytes 32 set.pw) where
  abbrev begun : Rows
  begun = rows_after rows (b.owner ∷ b.present ∷ [])

  begun_none : (at : Key) → key.Owner ≢ at → key.Set Present ≢ at → begun at ≡ None
  begun_none at apart away =
      neither_put rows b.owner b.present key.Owner (key.Set Present) at (value.Owner b.owner_is.owner) (value.Set b.keys) b.owner_is.puts_it b.present_is apart away
      ∙ fresh at

  begun_passwords : FitsPasswords begun
  begun_passwords Present keys has =
      row_fits begun set.params.identifier Present set keys fits
      (b.keys, second_put rows b.owner b.present (key.Set Present) (value.Set b.keys) b.present_is, b.keys_are) has
  begun_passwords Older keys has = absurd (no_set keys (begun (key.Set Older)) (begun_none (key.Set Older) (λ e. cc) (λ e. cc)) has)
  begun_passwords Asked keys has = absurd (no_set keys (begun (key.Set Asked)) (begun_none (key.Set Asked) (λ e. cc) (λ e. cc)) has)

  begin_passwords : FitsPasswords (rows_after rows changes)
  begin_passwords = subst (λ (cs : List Change). FitsPasswords (rows_after rows cs)) (sym b.changes_are) begun_passwords

-- a change of the set that is asked for
asked_passwords : (rows : Rows) (c : Change) → key_of c ≡ key.Set Asked
    → ((keys : SetRow) → HasSet (rows_after rows (c ∷ [])) Asked keys → AreBytes 32 keys.pw) → FitsPasswords rows → FitsPasswords (rows_after rows (c ∷ []))
asked_passwords rows c named own fits Present keys has = fits Present keys (sym (past_asked rows c (key.Set Present) named (λ e. cc)) ∙ has)
asked_passwords rows c named own fits Older keys has = fits Older keys (sym (past_asked rows c (key.Set Older) named (λ e. cc)) ∙ has)
asked_passwords rows c named own fits Asked keys has = own keys has

ask_passwords : (rows : Rows) (set : KeySet) (changes : List Change) → AreBytes 32 set.pw → FitsPasswords rows → Asks rows set changes
    → FitsPasswords (rows_after rows changes)
ask_passwords rows set changes new fits s =
    let after : Rows = rows_after rows (s.change ∷ []) in
    subst (λ (cs : List Change). FitsPasswords (rows_after rows cs)) (sym s.changes_are)
    (asked_passwords rows s.change s.put.puts.key_is
    (λ keys has.
    row_fits after s.owner.identifier Asked set keys new
    (s.put.keys, put_here rows s.change (key.Set Asked) (value.Set s.put.keys) s.put.puts, s.put.keys_are) has) fits)

forget_passwords : (rows : Rows) (changes : List Change) → FitsPasswords rows → Forgets rows changes → FitsPasswords (rows_after rows changes)
forget_passwords rows changes fits s =
    subst (λ (cs : List Change). FitsPasswords (rows_after rows cs)) (sym s.changes_are)
    (asked_passwords rows s.change s.removes.key_is
    (λ keys has.
    absurd (no_set keys (rows_after rows (s.change ∷ []) (key.Set Asked)) (removed_here rows s.change (key.Set Asked) s.removes) has)) fits)

adopt_passwords : (rows : Rows) (words left : ChaCha) (set : KeySet) (token : Bytes) (changes : List Change) → AreBytes 32 set.pw → FitsPasswords rows
    → Adopts rows words set token changes left → FitsPasswords (rows_after rows changes)
adopt_passwords rows words left set token changes new fits a Present keys has =
    row_fits (rows_after rows changes) a.owner.identifier Present set keys new (adopted rows words left set token changes a).present has
adopt_passwords rows words left set token changes new fits a Older keys has =
    row_fits (rows_after rows changes) a.owner.identifier Older a.sets.present keys (slot_fits rows a.owner.identifier Present a.sets.present fits a.holds.in_use)
    (adopted rows words left set token changes a).older has
adopt_passwords rows words left set token changes new fits a Asked keys has =
    absurd (no_set keys (rows_after rows changes (key.Set Asked)) (adopted rows words left set token changes a).asked has)

steps_fit_passwords : (rows : Rows) (words left : ChaCha) (what : What) (changes : List Change) → IsSound rows → FitsPasswords rows → FitsWhat what
    → Step rows words what changes left → FitsPasswords (rows_after rows changes)
steps_fit_passwords rows words left (begins set account token) changes sound fits new step =
    begin_passwords rows step.0 set account token changes step.1 new
steps_fit_passwords rows words left (renews token) changes sound fits new step = kept_passwords rows changes (renew_parts rows token changes step.0) fits
steps_fit_passwords rows words left (puts uuid kind text) changes sound fits new step =
    kept_passwords rows changes (put_parts rows words left uuid kind text changes step) fits
steps_fit_passwords rows words left (edits uuid text) changes sound fits new step =
    kept_passwords rows changes (edit_parts rows words left uuid text changes step) fits
steps_fit_passwords rows words left (deletes uuid) changes sound fits new step = delete_passwords rows uuid changes sound fits step.0
steps_fit_passwords rows words left (posts numbers) changes sound fits new step = post_passwords rows numbers changes sound fits step.0
steps_fit_passwords rows words left (applies r given) changes sound fits new step = apply_passwords rows words left r given changes fits step
steps_fit_passwords rows words left (asks set) changes sound fits new step = ask_passwords rows set changes new fits step.0
steps_fit_passwords rows words left (adopts set token) changes sound fits new step = adopt_passwords rows words left set token changes new fits step
steps_fit_passwords rows words left forgets changes sound fits new step = forget_passwords rows changes fits step.0

-- ---- both

pub steps_fit : StepsStaySound → StepsFitUuids → StepsFit
steps_fit stay uuids rows words left what changes fits new step = record {
  sound = stay rows words left what changes fits.sound step;
  uuids = uuids rows words left what changes fits.sound fits.uuids step;
  passwords = steps_fit_passwords rows words left what changes fits.sound fits.passwords new step;
}

pub fresh_fits : FreshIsSound → FreshFits
fresh_fits sound = record {
  sound = sound.sound;
  uuids = λ n l found. absurd (cc);
  passwords = λ slot keys has. absurd (no_set keys (no_rows (key.Set slot)) refl has);
}

-- Each step leaves sound rows sound, and a device whose drafts open with drafts that open.
use Rattle.std.proofs.Common.{◌≡◌, ◌≢◌, ℕ, List, [], ◌∷◌, Some, None, refl, sym, ap, ◌∙◌, subst, inr}
use Rattle.std.proofs.lemmas.List.Elements.{All-cons, All-nil}
use Rattle.std.specs.List.{AllZip}
use Rattle.std.specs.Prelude.{IsSome}
use Rattle.rand_chacha.specs.ChaCha.{ChaCha}
use Rattle.sn_items.specs.Items.{OpensItem}
use Rattle.sn_journal.specs.declared.owner.Owner.TheVariants.{Device}
use Rattle.sn_rows.specs.Facts.{first_put, neither_put, second_put}
use Rattle.sn_rows.specs.Table.{Rows, rows_after}
use Rattle.sn_rows.specs.declared.body.RowBody.TheVariants as row
use Rattle.sn_rows.specs.declared.body.RowStrings.{RowStrings}
use Rattle.sn_rows.specs.declared.change.Change.{Change}
use Rattle.sn_rows.specs.declared.device_rows.LocalItem.{LocalItem}
use Rattle.sn_rows.specs.declared.key.Key.{Key}
use Rattle.sn_rows.specs.declared.key.Key.TheVariants as key
use Rattle.sn_rows.specs.declared.key.Slot.TheVariants.{Asked, Present}
use Rattle.sn_rows.specs.declared.value.Value.TheVariants as value
use Rattle.sn_sets.specs.Sets.{sealed_of}
use Rattle.sn_string.specs.declared.params.KeySet.{KeySet}
use Rattle.sn_sync.specs.declared.answer.Answer.{Answer}
use Rattle.sn_sync.specs.declared.answer.Answer.TheVariants as answer
use Rattle.sn_sync.specs.declared.item.Item.{Item}
use Rattle.sn_sync.specs.declared.request.Request.{Request}
use Rattle.sn_sync.specs.declared.request.Request.TheVariants as request
use Rattle.sn_table.specs.Batches.{IsOf}
use Rattle.sn_device.specs.Laws.{StepsStaySound}
use Rattle.sn_device.specs.Sending.{Posts, as_posted}
use Rattle.sn_device.specs.States.{Bytes, Columns, HasLocal, IsFresh, IsSound, IsSoundItem}
use Rattle.sn_device.specs.Steps.{AppliesAnswer, AppliesTo, BeginsDevice, Deletes, Edits, adopts, applies, asks, begins, deletes, drafted, edits, forgets, posts, puts, renews}
use Rattle.sn_device.proofs.AdoptSound.{adopts_sound, asks_sound, forgets_sound}
use Rattle.sn_device.proofs.Frames.{device_after, one_of_device, sound_after, sound_stands}
use Rattle.sn_device.proofs.StepStands.{apply_parts, apply_stands, delete_parts, delete_stands, edit_parts, edit_stands, new_stands, post_parts, post_stands, put_parts, renew_parts}
use Rattle.sn_device.proofs.Well.{opened_names, sound_kept}

-- ---- the user's changes of an item

edited_sound : (set : KeySet) (text : Bytes) (strings : RowStrings) (cs : Columns) → OpensItem (sealed_of strings) cs.uuid set text → IsSoundItem cs
    → IsSoundItem (drafted (Some (row.Sealed strings)) cs)
edited_sound set text strings cs opens h = record {
  based = h.based;
  undeleted = h.undeleted;
  some = inr refl;
  sent = λ x. refl;
  again = h.again;
  body_named = h.body_named;
  latest_named = opened_names set cs.uuid text strings opens;
  posted_named = h.posted_named;
}

deleted_sound : (cs : Columns) → IsSoundItem cs → IsSoundItem (drafted (Some row.Deleted) cs)
deleted_sound cs h = record {
  based = h.based;
  undeleted = h.undeleted;
  some = inr refl;
  sent = λ x. refl;
  again = h.again;
  body_named = h.body_named;
  latest_named = tt;
  posted_named = h.posted_named;
}

posted_sound : (cs : Columns) → IsSome cs.latest → IsSoundItem cs → IsSoundItem (as_posted cs)
posted_sound cs drafted_is h = record {
  based = h.based;
  undeleted = h.undeleted;
  some = h.some;
  sent = λ x. x;
  again = h.again;
  body_named = h.body_named;
  latest_named = h.latest_named;
  posted_named = h.latest_named;
}

-- ---- the first rows

module _ (rows : Rows) (fresh : IsFresh rows) (set : KeySet) (account token : Bytes) (changes : List Change) (b : BeginsDevice set account token changes) where
  abbrev begun : Rows
  begun = rows_after rows (b.owner ∷ b.present ∷ [])

  own_row : begun key.Owner ≡ Some (value.Owner b.owner_is.owner)
  own_row =
      first_put rows b.owner b.present key.Owner (key.Set Present) (value.Owner b.owner_is.owner) (value.Set b.keys) b.owner_is.puts_it b.present_is (λ e. cc)

  set_row : begun (key.Set Present) ≡ Some (value.Set b.keys)
  set_row = second_put rows b.owner b.present (key.Set Present) (value.Set b.keys) b.present_is

  no_other : (at : Key) → key.Owner ≢ at → key.Set Present ≢ at → begun at ≡ None
  no_other at apart away =
      neither_put rows b.owner b.present key.Owner (key.Set Present) at (value.Owner b.owner_is.owner) (value.Set b.keys) b.owner_is.puts_it b.present_is apart away
      ∙ fresh at

  no_item : (n : ℕ) (l : LocalItem) → HasLocal begun n l → ⊥
  no_item n l found = let none = no_other (key.Local n) (λ e. cc) (λ e. cc) in cc

  begun_sound : IsSound begun
  begun_sound = record {
    device = device_after rows (b.owner ∷ b.present ∷ [])
        (All-cons (IsOf Device) b.owner (b.present ∷ []) (one_of_device b.owner key.Owner refl b.owner_is.puts_it.key_is)
        (All-cons (IsOf Device) b.present [] (one_of_device b.present (key.Set Present) refl b.present_is.key_is) (All-nil (IsOf Device))))
        (record { own = λ at v is. (let none = fresh at in absurd cc); kinds = λ at v is. (let none = fresh at in absurd cc) });
    owner = λ at v is. (b.owner_is.owner, own_row);
    sets = record {
      present = λ owner has. (b.keys, set_row);
      asked_alone = λ asked older has had. (let none = no_other (key.Set Asked) (λ e. cc) (λ e. cc) in cc);
    };
    locals = record {
      numbered = λ owner n l has found. absurd (no_item n l found);
      apart = λ n m l k found too same. absurd (no_item n l found);
      items = λ n l found. absurd (no_item n l found);
    };
  }

  pub begin_sound : IsSound (rows_after rows changes)
  begin_sound = subst (λ (cs : List Change). IsSound (rows_after rows cs)) (sym b.changes_are) begun_sound

  pub begin_empty : (n : ℕ) (l : LocalItem) → HasLocal (rows_after rows changes) n l → ⊥
  begin_empty n l found = no_item n l (ap (λ (cs : List Change). rows_after rows cs (key.Local n)) (sym b.changes_are) ∙ found)

-- ---- each step

edit_sound : (rows : Rows) (words left : ChaCha) (uuid text : Bytes) (changes : List Change) → IsSound rows → Edits rows words uuid text changes left
    → IsSound (rows_after rows changes)
edit_sound rows words left uuid text changes sound s =
    sound_after rows changes sound (edit_parts rows words left uuid text changes s)
    (edit_stands IsSoundItem rows words left uuid text changes s (λ cs undeleted opens. edited_sound s.sets.present text s.strings cs opens)
    (sound_stands rows s.owner sound s.holds.owned))

delete_sound : (rows : Rows) (uuid : Bytes) (changes : List Change) → IsSound rows → Deletes rows uuid changes → IsSound (rows_after rows changes)
delete_sound rows uuid changes sound s =
    let has = sound.owner (key.Local s.number) (value.Local s.local) s.stands.0 in
    sound_after rows changes sound (delete_parts rows has.0 uuid changes has.1 s)
    (delete_stands IsSoundItem has.0.next rows uuid changes s deleted_sound (sound_stands rows has.0 sound has.1))

post_sound : (rows : Rows) (numbers : List ℕ) (changes : List Change) → IsSound rows → AllZip (Posts rows) numbers changes
    → IsSound (rows_after rows changes)
post_sound rows [] [] sound all = sound
post_sound rows [] (c ∷ changes) sound all = absurd all
post_sound rows (at ∷ numbers) [] sound all = absurd all
post_sound rows (at ∷ numbers) (c ∷ changes) sound all =
    let p : Posts rows at c = all.0 in
    let has = sound.owner (key.Local at) (value.Local p.local) p.stands in
    sound_after rows (c ∷ changes) sound (post_parts rows has.0 (at ∷ numbers) (c ∷ changes) has.1 all)
    (post_stands IsSoundItem has.0.next rows (at ∷ numbers) (c ∷ changes) posted_sound all (sound_stands rows has.0 sound has.1))

answer_sound : (rows : Rows) (words left : ChaCha) (sent : List Item) (given : Answer) (changes : List Change) → IsSound rows
    → AppliesAnswer rows words sent given changes left → IsSound (rows_after rows changes)
answer_sound rows words left sent (answer.Sync conflicts cursor retrieved saved token) changes sound s =
    sound_after rows changes sound (apply_parts rows words left sent conflicts cursor retrieved saved token changes s)
    (apply_stands rows words left sent conflicts cursor retrieved saved token changes s IsSoundItem (sound_kept s.sets)
    (sound_stands rows s.owner sound s.holds.owned))
answer_sound rows words left sent (answer.Account token identifier account) changes sound s = absurd s
answer_sound rows words left sent (answer.Params params) changes sound s = absurd s
answer_sound rows words left sent (answer.Refused status tag more) changes sound s = absurd s

apply_sound : (rows : Rows) (words left : ChaCha) (r : Request) (given : Answer) (changes : List Change) → IsSound rows
    → AppliesTo rows words r given changes left → IsSound (rows_after rows changes)
apply_sound rows words left (request.Sync token items limit sync_token cursor_token) given changes sound s =
    answer_sound rows words left items given changes sound s
apply_sound rows words left (request.Register params pw) given changes sound s = absurd s
apply_sound rows words left (request.Params identifier) given changes sound s = absurd s
apply_sound rows words left (request.SignIn identifier pw) given changes sound s = absurd s
apply_sound rows words left (request.ChangePw token current pw cost nonce) given changes sound s = absurd s

pub steps_stay_sound : StepsStaySound
steps_stay_sound rows words left (begins set account token) changes sound step = begin_sound rows step.0 set account token changes step.1
steps_stay_sound rows words left (renews token) changes sound step =
    sound_after rows changes sound (renew_parts rows token changes step.0) (sound_stands rows step.0.owner sound step.0.owned)
steps_stay_sound rows words left (puts uuid kind text) changes sound step =
    sound_after rows changes sound (put_parts rows words left uuid kind text changes step)
    (new_stands IsSoundItem rows words left uuid kind text changes step (sound_kept step.sets rows) (sound_stands rows step.owner sound step.holds.owned))
steps_stay_sound rows words left (edits uuid text) changes sound step = edit_sound rows words left uuid text changes sound step
steps_stay_sound rows words left (deletes uuid) changes sound step = delete_sound rows uuid changes sound step.0
steps_stay_sound rows words left (posts numbers) changes sound step = post_sound rows numbers changes sound step.0
steps_stay_sound rows words left (applies r given) changes sound step = apply_sound rows words left r given changes sound step
steps_stay_sound rows words left (asks set) changes sound step = asks_sound rows set changes sound step.0
steps_stay_sound rows words left (adopts set token) changes sound step = adopts_sound rows words left set token changes sound step
steps_stay_sound rows words left forgets changes sound step = forgets_sound rows changes sound step.0

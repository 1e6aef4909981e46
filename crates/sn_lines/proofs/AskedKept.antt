-- A set that a device keeps as asked for was asked for in a commit that stood.
use Rattle.std.proofs.Common.{◌≡◌, ℕ, List, [], ◌∷◌, Option, Some, None, sym, ap, ◌∙◌, subst}
use Rattle.rand_chacha.specs.ChaCha.{ChaCha}
use Rattle.sn_device.proofs.Facts.{Parts, adopted, apply_parts, delete_parts, edit_parts, one_owner, parts_keep, post_parts, put_parts, renew_parts}
use Rattle.sn_device.specs.Sending.{PostsAll}
use Rattle.sn_device.specs.States.{Bytes, HasOwner, HasSet, IsSetOf, IsSound}
use Rattle.sn_device.specs.Steps.{AppliesTo, Asks, Deletes, Step, What, adopts, applies, asks, begins, deletes, edits, forgets, posts, puts, renews}
use Rattle.sn_rows.specs.Facts.{put_elsewhere, put_here, removed_here}
use Rattle.sn_rows.specs.Table.{Rows, rows_after}
use Rattle.sn_rows.specs.declared.change.Change.{Change}
use Rattle.sn_rows.specs.declared.device_rows.OwnerRow.{OwnerRow}
use Rattle.sn_rows.specs.declared.device_rows.SetRow.{SetRow}
use Rattle.sn_rows.specs.declared.key.Key.TheVariants as key
use Rattle.sn_rows.specs.declared.key.Slot.TheVariants.{Asked}
use Rattle.sn_rows.specs.declared.value.Value.TheVariants as value
use Rattle.sn_string.proofs.Facts.{same_keys}
use Rattle.sn_string.specs.declared.params.KeySet.{KeySet}
use Rattle.sn_sync.specs.declared.answer.Answer.{Answer}
use Rattle.sn_sync.specs.declared.answer.Answer.TheVariants as answer
use Rattle.sn_sync.specs.declared.request.Request.{Request}
use Rattle.sn_sync.specs.declared.request.Request.TheVariants as request
use Rattle.sn_world.proofs.Facts.{one_set_row, stays_unasked}
use Rattle.sn_world.specs.Calls.{IsAskedFor}
use Rattle.sn_world.specs.Plain.{AsksNoSet}

-- no set is in a slot without a row
none_asked : (rows : Rows) (set : KeySet) → AsksNoSet rows → ¬ (IsAskedFor rows set)
none_asked rows set none (owner, has, (keys, found, is)) = no_row keys (rows (key.Set Asked)) none found
  where
    no_row : (k : SetRow) (v : Option _) → v ≡ None → v ≡ Some (value.Set k) → ⊥
    no_row k v e f = cc

-- a set of the same row, under the same identifier
same_asked : (rows after : Rows) (owner later : OwnerRow) (set : KeySet) → HasOwner rows owner → HasOwner after later → later.identifier ≡ owner.identifier
    → after (key.Set Asked) ≡ rows (key.Set Asked) → IsAskedFor after set → IsAskedFor rows set
same_asked rows after owner later set owned now named same (other, has, (keys, found, is)) =
    let own : other.identifier ≡ owner.identifier = ap (λ (o : OwnerRow). o.identifier) (one_owner after other later has now) ∙ named in
    (owner, owned, (keys, sym same ∙ found, subst (λ (i : Bytes). IsSetOf i keys set) own is))

parts_asked : (rows : Rows) (changes : List Change) (set : KeySet) → Parts rows changes → IsAskedFor (rows_after rows changes) set → IsAskedFor rows set
parts_asked rows changes set x =
    let k = parts_keep rows changes x in
    same_asked rows (rows_after rows changes) x.owner x.ends.later set x.owned k.owned k.identified k.asked

-- of which sets it holds
module _ (Q : KeySet → Type 0) where
  -- a set that the commit asks for is of them
  abbrev pub IsAskOf : What → Type 0
  IsAskOf (begins set account token) = Unit {0}
  IsAskOf (renews token) = Unit {0}
  IsAskOf (puts uuid kind text) = Unit {0}
  IsAskOf (edits uuid text) = Unit {0}
  IsAskOf (deletes uuid) = Unit {0}
  IsAskOf (posts numbers) = Unit {0}
  IsAskOf (applies r given) = Unit {0}
  IsAskOf (asks set) = Q set
  IsAskOf (adopts set token) = Unit {0}
  IsAskOf forgets = Unit {0}

  module _ (rows : Rows) (words left : ChaCha) (changes : List Change) (sound : IsSound rows) (was : (set : KeySet) → IsAskedFor rows set → Q set) where
    by_parts : Parts rows changes → (set : KeySet) → IsAskedFor (rows_after rows changes) set → Q set
    by_parts x set now = was set (parts_asked rows changes set x now)

    by_none : AsksNoSet (rows_after rows changes) → (set : KeySet) → IsAskedFor (rows_after rows changes) set → Q set
    by_none none set now = absurd (none_asked (rows_after rows changes) set none now)

    deleted : (uuid : Bytes) → Deletes rows uuid changes → (set : KeySet) → IsAskedFor (rows_after rows changes) set → Q set
    deleted uuid x =
        let own = sound.owner (key.Local x.number) (value.Local x.local) x.stands.0 in
        by_parts (delete_parts rows own.0 uuid changes own.1 x)

    applied : (r : Request) (given : Answer) → AppliesTo rows words r given changes left → (set : KeySet) → IsAskedFor (rows_after rows changes) set → Q set
    applied (request.Sync token items limit sync_token cursor_token) (answer.Sync conflicts cursor retrieved saved next_token) x =
        by_parts (apply_parts rows words left items conflicts cursor retrieved saved next_token changes x)
    applied (request.Sync token items limit sync_token cursor_token) (answer.Account other identifier uuid) x = absurd x
    applied (request.Sync token items limit sync_token cursor_token) (answer.Params params) x = absurd x
    applied (request.Sync token items limit sync_token cursor_token) (answer.Refused status tag more) x = absurd x
    applied (request.Register params pw) given x = absurd x
    applied (request.Params identifier) given x = absurd x
    applied (request.SignIn identifier pw) given x = absurd x
    applied (request.ChangePw token current pw cost nonce) given x = absurd x

    -- the set that is asked for is the one that is kept
    asked : (new set : KeySet) → Q new → Asks rows new changes → IsAskedFor (rows_after rows changes) set → Q set
    asked new set of x (other, has, (keys, found, is)) =
        let after : Rows = rows_after rows changes in
        let owned : HasOwner after x.owner =
        ap (λ (cs : List Change). rows_after rows cs key.Owner) x.changes_are
        ∙ put_elsewhere rows x.change (key.Set Asked) key.Owner (value.Set x.put.keys) x.put.puts (λ e. cc) ∙ x.holds.owned in
        let here : HasSet after Asked x.put.keys =
        ap (λ (cs : List Change). rows_after rows cs (key.Set Asked)) x.changes_are ∙ put_here rows x.change (key.Set Asked) (value.Set x.put.keys) x.put.puts in
        let row : keys ≡ x.put.keys = one_set_row keys x.put.keys (after (key.Set Asked)) found here in
        let own : other.identifier ≡ x.owner.identifier = ap (λ (o : OwnerRow). o.identifier) (one_owner after other x.owner has owned) in
        let b : IsSetOf x.owner.identifier x.put.keys set =
        subst (λ (k : SetRow). IsSetOf x.owner.identifier k set) row (subst (λ (i : Bytes). IsSetOf i keys set) own is) in
        let a : IsSetOf x.owner.identifier x.put.keys new = x.put.keys_are in
        subst Q
        (same_keys new set (a.identifier_is ∙ sym b.identifier_is) (a.cost ∙ sym b.cost) (a.nonce ∙ sym b.nonce) (a.pw ∙ sym b.pw) (a.mk ∙ sym b.mk)
        (a.ak ∙ sym b.ak)) of

  posted : (rows : Rows) (sound : IsSound rows) (was : (set : KeySet) → IsAskedFor rows set → Q set) (numbers : List ℕ) (changes : List Change)
      → PostsAll rows numbers changes → (set : KeySet) → IsAskedFor (rows_after rows changes) set → Q set
  posted rows sound was [] [] all = was
  posted rows sound was [] (c ∷ changes) all = absurd all
  posted rows sound was (number ∷ numbers) [] all = absurd all
  posted rows sound was (number ∷ numbers) (c ∷ changes) (one, rest) =
      let own = sound.owner (key.Local number) (value.Local one.local) one.stands in
      λ set now. was set (parts_asked rows (c ∷ changes) set (post_parts rows own.0 (number ∷ numbers) (c ∷ changes) own.1 (one, rest)) now)

  pub asked_after : (rows : Rows) (words left : ChaCha) (what : What) (changes : List Change) → IsSound rows → ((set : KeySet) → IsAskedFor rows set → Q set)
      → IsAskOf what → Step rows words what changes left → (set : KeySet) → IsAskedFor (rows_after rows changes) set → Q set
  asked_after rows words left (begins set account token) changes sound was of step =
      by_none rows words left changes sound was (stays_unasked rows words left changes sound (step.0 (key.Set Asked)) (begins set account token) tt step)
  asked_after rows words left (renews token) changes sound was of step = by_parts rows words left changes sound was (renew_parts rows token changes step.0)
  asked_after rows words left (puts uuid kind text) changes sound was of step =
      by_parts rows words left changes sound was (put_parts rows words left uuid kind text changes step)
  asked_after rows words left (edits uuid text) changes sound was of step =
      by_parts rows words left changes sound was (edit_parts rows words left uuid text changes step)
  asked_after rows words left (deletes uuid) changes sound was of step = deleted rows words left changes sound was uuid step.0
  asked_after rows words left (posts numbers) changes sound was of step = posted rows sound was numbers changes step.0
  asked_after rows words left (applies r given) changes sound was of step = applied rows words left changes sound was r given step
  asked_after rows words left (asks set) changes sound was of step = λ other now. asked rows words left changes sound was set other of step.0 now
  asked_after rows words left (adopts set token) changes sound was of step =
      by_none rows words left changes sound was (adopted rows words left set token changes step).asked
  asked_after rows words left forgets changes sound was of step =
      by_none rows words left changes sound was
      (ap (λ (cs : List Change). rows_after rows cs (key.Set Asked)) step.0.changes_are ∙ removed_here rows step.0.change (key.Set Asked) step.0.removes)

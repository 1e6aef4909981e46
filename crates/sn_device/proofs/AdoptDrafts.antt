-- What the adoption of a key set makes of a draft.
use Rattle.std.proofs.Common.{◌≡◌, ◌∙◌, Some, subst}
use Rattle.rand_chacha.specs.ChaCha.{ChaCha}
use Rattle.sn_rekey.specs.Rekeying.{IsRewrapped}
use Rattle.sn_rows.specs.Table.{rows_after}
use Rattle.sn_rows.specs.declared.body.RowBody.{RowBody}
use Rattle.sn_rows.specs.declared.device_rows.LocalItem.{LocalItem}
use Rattle.sn_sets.specs.declared.sets.Sets.{Sets}
use Rattle.sn_string.specs.declared.params.KeySet.{KeySet}
use Rattle.sn_device.specs.Laws.{DraftAdopted, HasDraft, IsAdoptedAs}
use Rattle.sn_device.specs.States.{Bytes}
use Rattle.sn_device.proofs.AdoptRows.{Adopted, IsAdopted, adopted}
use Rattle.sn_device.proofs.AdoptSound.{rewrapped_place}
use Rattle.sn_device.proofs.DeviceSteps.{one_sets}

-- the draft of a row after the adoption
record DraftsAgain (sets : Sets) (set : KeySet) (old now : LocalItem) (latest : RowBody) : Type 0 where
  pub again : RowBody
  pub drafted : now.latest ≡ Some again
  pub words : ChaCha
  pub left : ChaCha
  pub rewrapped : IsRewrapped sets set words old.uuid latest again left

drafts_again : (sets : Sets) (set : KeySet) (old now : LocalItem) (latest : RowBody) → IsAdopted sets set old now → old.latest ≡ Some latest
    → DraftsAgain sets set old now latest
drafts_again sets set old now latest a drafted =
    let r = a.rekeys in
    let place = rewrapped_place sets set r.second old.uuid r.latest_again old.latest now.latest r.third latest r.latest_is drafted in
    record { again = place.0; drafted = place.1; words = r.second; left = r.third; rewrapped = place.2 }

pub draft_adopted : DraftAdopted
draft_adopted rows words left set token changes owner sets uuid number latest has a d =
    let whole : Adopted rows a.sets set token a.owner (rows_after rows changes) = adopted rows words left set token changes a in
    let held : a.sets ≡ sets = one_sets rows a.owner owner a.sets sets a.holds has in
    let now = whole.there number d.local d.stands.0 in
    let draft : DraftsAgain a.sets set d.local now.0 latest = drafts_again a.sets set d.local now.0 latest now.2 d.drafted in
    let again : IsAdoptedAs a.sets set d.local.uuid latest draft.again =
    record { words = draft.words; left = draft.left; rewrapped = draft.rewrapped } in
    let after : HasDraft (rows_after rows changes) uuid number draft.again =
    record { local = now.0; stands = (now.1, now.2.rekeys.uuid_is ∙ d.stands.1); drafted = draft.drafted } in (
      draft.again,
      after,
      subst (λ (u : Bytes). IsAdoptedAs sets set u latest draft.again) d.stands.1
          (subst (λ (z : Sets). IsAdoptedAs z set d.local.uuid latest draft.again) held again),
    )

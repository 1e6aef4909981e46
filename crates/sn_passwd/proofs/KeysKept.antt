-- What the commit of a set that is asked for leaves of a device's keys.
use Rattle.std.proofs.Common.{◌≡◌, ◌≢◌, List, Option, Some, None, ap, ◌∙◌, subst}
use Rattle.sn_device.specs.States.{Bytes, HasSets, IsInSlot}
use Rattle.sn_device.specs.Steps.{Asks}
use Rattle.sn_rows.specs.Facts.{put_elsewhere, put_here}
use Rattle.sn_rows.specs.Table.{Rows, rows_after}
use Rattle.sn_rows.specs.declared.change.Change.{Change}
use Rattle.sn_rows.specs.declared.device_rows.OwnerRow.{OwnerRow}
use Rattle.sn_rows.specs.declared.key.Key.{Key}
use Rattle.sn_rows.specs.declared.key.Key.TheVariants as key
use Rattle.sn_rows.specs.declared.key.Slot.{Slot}
use Rattle.sn_rows.specs.declared.key.Slot.TheVariants.{Asked, Older, Present}
use Rattle.sn_rows.specs.declared.value.Value.TheVariants as value
use Rattle.sn_sets.specs.declared.sets.Sets.{Sets}
use Rattle.sn_string.specs.declared.params.KeySet.{KeySet}
use Rattle.sn_world.proofs.Facts.{one_owner}

-- a slot with the same row has the same set
pub slot_same : (rows now : Rows) (identifier : Bytes) (slot : Slot) (found : Option KeySet) → now (key.Set slot) ≡ rows (key.Set slot)
    → IsInSlot rows identifier slot found → IsInSlot now identifier slot found
slot_same rows now identifier slot None same is = same ∙ is
slot_same rows now identifier slot (Some set) same (keys, has, of) = (keys, same ∙ has, of)

abbrev pub with_asked : Sets → KeySet → Sets
with_asked sets set = record { present = sets.present; older = sets.older; asked = Some set }

-- the sets are as they were, with that one
pub asked_sets : (rows : Rows) (owner : OwnerRow) (sets : Sets) (set : KeySet) (changes : List Change) → HasSets rows owner sets → Asks rows set changes
    → HasSets (rows_after rows changes) owner (with_asked sets set)
asked_sets rows owner sets set changes holds x =
    let past : (k : Key) → key.Set Asked ≢ k → rows_after rows changes k ≡ rows k =
    λ k off. ap (λ (cs : List Change). rows_after rows cs k) x.changes_are ∙ put_elsewhere rows x.change (key.Set Asked) k (value.Set x.put.keys) x.put.puts off in
    let own : x.owner.identifier ≡ owner.identifier =
    ap (λ (o : OwnerRow). o.identifier) (one_owner x.owner owner (rows key.Owner) x.holds.owned holds.owned) in
    let here : rows_after rows changes (key.Set Asked) ≡ Some (value.Set x.put.keys) =
    ap (λ (cs : List Change). rows_after rows cs (key.Set Asked)) x.changes_are ∙ put_here rows x.change (key.Set Asked) (value.Set x.put.keys) x.put.puts in
    record {
      owned = past key.Owner (λ e. cc) ∙ holds.owned;
      in_use = slot_same rows (rows_after rows changes) owner.identifier Present (Some sets.present) (past (key.Set Present) (λ e. cc)) holds.in_use;
      before = slot_same rows (rows_after rows changes) owner.identifier Older sets.older (past (key.Set Older) (λ e. cc)) holds.before;
      wanted = subst (λ (i : Bytes). IsInSlot (rows_after rows changes) i Asked (Some set)) own (x.put.keys, here, x.put.keys_are);
    }

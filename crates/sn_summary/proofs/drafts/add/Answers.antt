use Rattle.std.proofs.Common.{OnOk, subst, sym}
use Rattle.sn_summary.specs.Walks.{AddsKey, key_cmp}
use Rattle.std.specs.BTreeSet.{btree_set_len, contains}
use Rattle.sn_summary.proofs.DraftLemmas.{added_len}
use Rattle.sn_summary.proofs.drafts.add.Goals as goal
use Rattle.sn_summary.proofs.drafts.add.Goals.{in-Ok, in-Err}

pub returns : goal.returns
returns c =
    let P : Type 0 = AddsKey c.args.drafts.now c.insert.new.self c.args.device.now c.args.uuid.now in
    elim c.match-insert.branch [
      | in-Ok w ↦ subst (λ r. OnOk r P) (sym w.result-is)
          (record {
            key = c.in_ok-key.key;
            device_is = c.in_ok-key.ensures.device;
            uuid_is = c.in_ok-key.ensures.uuid;
            updates = w.in-Ok.ensures.updates.0;
            len = added_len (btree_set_len c.insert.new.self) (btree_set_len c.args.drafts.now) w.in-Ok.field-0
                (contains key_cmp c.args.drafts.now c.in_ok-key.key) w.in-Ok.ensures.added w.in-Ok.ensures.len;
          })
      | in-Err w ↦ subst (λ r. OnOk r P) (sym w.result-is) (tt {0})
    ]

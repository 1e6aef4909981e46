use Rattle.serde_json.specs.Data.{no_items}
use Rattle.sn_sync.proofs.Appending.{◌>>◌, Appends-none, Appends-one, ends_with}
use Rattle.sn_sync.proofs.DataLists.{Appends-closed, Appends-pushed, AreConflictsData-all, AreConflictsData-next, pushed}
use Rattle.sn_sync.proofs.answer_writer.write_conflicts.Goals as goal

pub loop-conflict-init : goal.loop-conflict-init
loop-conflict-init c = (no_items, tt, Appends-none c.begin_array.new.self)

pub loop-conflict-preserved : goal.loop-conflict-preserved
loop-conflict-preserved c =
    let w = c.loop-conflict.invariant in
    let one = c.in_ok-write_conflict.ensures in (
      pushed w.0 one.0,
      AreConflictsData-next c.args.conflicts.now c.loop-conflict.conflict-index c.conflict-item.result w.0 one.0 c.loop-conflict-test.true c.conflict-item.is w.1 one.1,
      Appends-pushed w.0 one.0 w.2 one.2,
    )

pub returns : goal.returns
returns c =
    let w = c.loop-conflict.invariant in
    ends_with c.end_array.ensures (λ end. (
      w.0,
      AreConflictsData-all c.args.conflicts.now c.loop-conflict.conflict-index w.0 c.loop-conflict-test.false w.1,
      Appends-one c.in_ok-begin_array.ensures >> Appends-closed w.0 w.2 end,
    ))

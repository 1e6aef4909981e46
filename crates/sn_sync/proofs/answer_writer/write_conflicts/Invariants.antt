use Rattle.std.proofs.Common.{take}
use Rattle.serde_json.specs.Data.{Items}
use Rattle.sn_sync.specs.Appended.{Appends}
use Rattle.sn_sync.specs.Written.{AreConflictsData}
use Rattle.sn_sync.proofs.DataLists.{open_tokens}
use Rattle.sn_sync.proofs.answer_writer.write_conflicts.Given as goal

abbrev pub invariant-loop-conflict : goal.invariant-loop-conflict
invariant-loop-conflict l =
    (ds : Items) × AreConflictsData (take l.conflict-index l.conflicts) ds × Appends l.initial.out l.out (open_tokens ds)

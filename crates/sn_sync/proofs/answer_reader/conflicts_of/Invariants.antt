use Rattle.serde_json.specs.Events.{items_len}
use Rattle.sn_json.specs.Views.{items_view}
use Rattle.sn_sync.specs.Answers.{AreConflicts, RefusesConflicts}
use Rattle.sn_sync.proofs.Lists.{GoesOn, Refuses}
use Rattle.sn_sync.proofs.answer_reader.conflicts_of.Given as goal

abbrev pub invariant-values : goal.invariant-values
invariant-values l = record {
  conflicts : GoesOn AreConflicts (items_view l.left) (items_view l.values) l.conflicts;
  refusals : Refuses RefusesConflicts (items_view l.left) (items_view l.values);
}

abbrev pub decreases-values : goal.decreases-values
decreases-values l = items_len (items_view l.left)

use Rattle.sn_row_map.proofs.RowLemmas.{no_room, others_removed, row_removed}
use Rattle.sn_row_map.proofs.row_map.RowMap.remove.Goals as goal

pub returns-clause-rows : goal.returns-clause-rows
returns-clause-rows c = row_removed _ _ _ c.remove.ensures.updates.0

pub returns-clause-gone : goal.returns-clause-gone
returns-clause-gone c = no_room _ _ c.remove.ensures.updates.1

pub returns-clause-swept : goal.returns-clause-swept
returns-clause-swept c = others_removed _ _ _ c.remove.ensures.updates.0

use Rattle.sn_row_map.proofs.RowLemmas.{none_set, row_of_no_room, not_both}
use Rattle.sn_row_map.proofs.row_map.RowMap.empty.Goals as goal

pub returns-clause-rows : goal.returns-clause-rows
returns-clause-rows c = none_set _ _ (row_of_no_room _ _ (λ h. not_both _ (c.has_room.ensures.1 h) c.if-has_room.false))

use Rattle.sn_row_map.proofs.RowLemmas.{none_stays, row_of_no_room, not_both}
use Rattle.sn_row_map.proofs.row_map.RowMap.make_room.Goals as goal

pub returns-clause-rows : goal.returns-clause-rows
returns-clause-rows c =
    none_stays _ _ _ (row_of_no_room _ _ (λ h. not_both _ (c.has_room.ensures.1 h) c.if-has_room.false)) c.in_ok-put.ensures.rows

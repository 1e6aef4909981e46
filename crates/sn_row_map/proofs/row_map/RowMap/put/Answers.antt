use Rattle.std.proofs.Common.{refl}
use Rattle.sn_row_map.proofs.RowLemmas.{row_put, room_put, has_room, others_put, others_stay, rows_stay, room_stays, room_stays_back, no_room}
use Rattle.sn_row_map.proofs.row_map.RowMap.put.Goals as goal

pub returns-in-Ok-clause-rows : goal.returns-in-Ok-clause-rows
returns-in-Ok-clause-rows c = row_put _ _ _ _ c.in-Ok.ensures.updates.0

pub returns-in-Ok-clause-room : goal.returns-in-Ok-clause-room
returns-in-Ok-clause-room c = has_room _ _ _ c.in-Ok.ensures.updates.1

pub returns-in-Ok-clause-kept : goal.returns-in-Ok-clause-kept
returns-in-Ok-clause-kept c = room_put _ _ _ _ c.in-Ok.ensures.updates.0

pub returns-in-Ok-clause-fits : goal.returns-in-Ok-clause-fits
returns-in-Ok-clause-fits c = λ h. refl

pub returns-clause-kept : goal.returns-clause-kept
returns-clause-kept c = room_stays _ _ c.in-Err.ensures.err

pub returns-clause-refused : goal.returns-clause-refused
returns-clause-refused c = (rows_stay _ _ c.in-Err.ensures.err, room_stays_back _ _ c.in-Err.ensures.err)

pub returns-clause-fits : goal.returns-clause-fits
returns-clause-fits c = λ h. absurd (no_room _ _ c.in-Err.ensures.absent h)

pub returns-in-Ok-clause-others : goal.returns-in-Ok-clause-others
returns-in-Ok-clause-others c = others_put _ _ _ _ c.in-Ok.ensures.updates.0

pub returns-clause-others : goal.returns-clause-others
returns-clause-others c = λ other apart. others_stay _ _ c.in-Err.ensures.err other

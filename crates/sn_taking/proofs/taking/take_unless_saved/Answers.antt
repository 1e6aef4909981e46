use Rattle.std.proofs.Common.{refl, false}
use Rattle.std.proofs.lemmas.Result.{IfErr-weaker}
use Rattle.sn_conflict.proofs.Facts.{not_holds}
use Rattle.sn_row_map.specs.RowMaps.{row_in}
use Rattle.sn_taking.specs.Taken.{StopsServer, so_far}
use Rattle.sn_device.specs.Taking.{RunsOutAt, is_retrieved}
use Rattle.sn_taking.proofs.TakingLemmas.{server_stops, stops_more}
use Rattle.sn_taking.proofs.taking.take_unless_saved.Goals as goal

pub returns-clause-err : goal.returns-clause-err
returns-clause-err c =
    let p = so_far (row_in c.args.rows.now) c.args.taken.now c.args.words.now in
    IfErr-weaker c.take_server.result _ _
    (λ e stops.
    stops_more (StopsServer c.args.sets.now p c.args.item.now false) (RunsOutAt c.args.sets.now c.args.saved.now p (is_retrieved c.args.item.now)) e
    (server_stops c.args.sets.now c.args.saved.now p (is_retrieved c.args.item.now) c.args.item.now false
    (refl, refl, not_holds c.has_uuid.result c.has_uuid.ensures c.if-has_uuid.false)) stops)
    c.take_server.ensures.err

use Rattle.std.proofs.Common.{false, IfErr, IfOk, refl, subst, sym}
use Rattle.std.proofs.lemmas.Result.{IfErr-weaker, IfOk-weaker}
use Rattle.sn_row_map.specs.RowMaps.{row_in}
use Rattle.sn_sync.specs.declared.answer.Conflict.{Conflict}
use Rattle.sn_sync.specs.declared.answer.Conflict.TheVariants as conflict
use Rattle.sn_taking.specs.Taken.{StopsBy, StopsServer, after, so_far}
use Rattle.sn_device.specs.Taking.{RunsOutAt, Takes, is_conflict}
use Rattle.sn_taking.proofs.TakingLemmas.{server_stops, stops_more}
use Rattle.sn_taking.proofs.taking.take_conflict.Goals as goal

pub returns-in-Sync-clause-err : goal.returns-in-Sync-clause-err
returns-in-Sync-clause-err c = λ saved.
    let p = so_far (row_in c.args.rows.now) c.args.taken.now c.args.words.now in
    subst (λ (k : Conflict). IfErr c.take_server.result (StopsBy (RunsOutAt c.args.sets.now saved p (is_conflict k)))) (sym c.in-Sync.is)
    (IfErr-weaker c.take_server.result _ _
    (λ e stops.
    stops_more (StopsServer c.args.sets.now p c.in-Sync.server false)
    (RunsOutAt c.args.sets.now saved p (is_conflict (conflict.Sync c.in-Sync.server))) e
    (server_stops c.args.sets.now saved p (is_conflict (conflict.Sync c.in-Sync.server)) c.in-Sync.server false (refl, refl)) stops)
    c.take_server.ensures.err)

pub returns-in-Uuid-clause-ok : goal.returns-in-Uuid-clause-ok
returns-in-Uuid-clause-ok c = λ saved.
    let p = so_far (row_in c.args.rows.now) c.args.taken.now c.args.words.now in
    subst (λ (k : Conflict). IfOk c.take_renamed.result (λ effect. Takes c.args.sets.now saved p (is_conflict k) (after p effect c.take_renamed.new.words)))
    (sym c.in-Uuid.is) (c.take_renamed.ensures.ok c.in-Uuid.unsaved refl)

pub returns-in-Content-clause-ok : goal.returns-in-Content-clause-ok
returns-in-Content-clause-ok c = λ saved.
    let p = so_far (row_in c.args.rows.now) c.args.taken.now c.args.words.now in
    subst (λ (k : Conflict). IfOk c.take_unposted.result (λ effect. Takes c.args.sets.now saved p (is_conflict k) (after p effect c.args.words.now)))
    (sym c.in-Content.is)
    (IfOk-weaker c.take_unposted.result _ _ (λ effect takes. takes c.args.sets.now c.args.words.now c.in-Content.unsaved refl) c.take_unposted.ensures.ok)

use Rattle.std.proofs.Common.{◌∙◌, inl, sym}
use Rattle.std.proofs.lemmas.Result.{IfErr-weaker, IfOk-weaker}
use Rattle.sn_row_map.specs.RowMaps.{row_in}
use Rattle.sn_sync.specs.declared.answer.Conflict.TheVariants as conflict
use Rattle.sn_taking.specs.Taken.{FindsNoFresh, IsReadable, so_far}
use Rattle.sn_device.specs.Taking.{RunsOutAt, is_conflict}
use Rattle.sn_taking.proofs.TakingLemmas.{rename_stops, stands_at, stops_more}
use Rattle.sn_taking.proofs.taking.take_renamed.Goals as goal

pub returns-in-Some-clause-ok : goal.returns-in-Some-clause-ok
returns-in-Some-clause-ok c = λ unsaved same.
    let has = stands_at (row_in c.args.rows.now) c.as_slice-changes.result.now c.args.taken.now.changes c.args.uuid c.in-Some.number c.in-Some.local.now
    c.as_slice-changes.ensures c.in-Some.ensures.some in
    IfOk-weaker c.rename.result _ _ (λ effect renames. inl (c.in-Some.number, c.in-Some.local.now, (has.0, has.1 ∙ sym same), renames)) c.rename.ensures.ok

pub returns-in-Some-clause-err : goal.returns-in-Some-clause-err
returns-in-Some-clause-err c = λ saved unsaved same.
    let p = so_far (row_in c.args.rows.now) c.args.taken.now c.args.words.now in
    let has = stands_at (row_in c.args.rows.now) c.as_slice-changes.result.now c.args.taken.now.changes c.args.uuid c.in-Some.number c.in-Some.local.now
    c.as_slice-changes.ensures c.in-Some.ensures.some in
    IfErr-weaker c.rename.result _ _
    (λ e stops.
    stops_more (λ why. IsReadable c.args.sets.now c.in-Some.local.now × FindsNoFresh p why)
    (RunsOutAt c.args.sets.now saved p (is_conflict (conflict.Uuid unsaved))) e
    (rename_stops c.args.sets.now saved p unsaved c.in-Some.number c.in-Some.local.now (has.0, has.1 ∙ sym same)) stops)
    c.rename.ensures.err

use Rattle.std.proofs.Common.{map, arith, subst, sym}
use Rattle.sn_row_map.specs.RowMaps.{row_in}
use Rattle.sn_sets.proofs.Facts.{later_again}
use Rattle.sn_taking.specs.Taken.{StopsBy, so_far}
use Rattle.sn_device.specs.Taking.{Progress, RunsOut, RunsOutAt, Takes, is_conflict}
use Rattle.sn_taking.proofs.TakingLemmas.{err_as, runs_out, stops_more, takes_more}
use Rattle.sn_taking.proofs.taking.take_conflicts.Goals as goal

pub returns-in_err-effect-clause-err : goal.returns-in_err-effect-clause-err
returns-in_err-effect-clause-err c =
    let p = so_far (row_in c.args.rows.now) c.args.taken.now c.args.words.now in
    let q = so_far (row_in c.args.rows.now) c.conflicts.taken c.conflicts.words in
    let sets = c.args.sets.now in
    let saved = c.args.saved.now in
    err_as c.from_residual.result c.in_err-effect.field-0.0 (StopsBy (RunsOut sets saved p (map is_conflict c.args.conflicts.now))) c.from_residual.ensures.1
    (stops_more (RunsOutAt sets saved q (is_conflict c.conflict-item.result)) (RunsOut sets saved p (map is_conflict c.args.conflicts.now)) c.in_err-effect.field-0.0
    (λ why stops.
    runs_out is_conflict sets saved p q c.args.conflicts.now c.conflicts.conflict-index c.conflict-item.result (omega arith) c.conflict-item.is c.conflicts.invariant.takes why
    stops)
    (c.in_err-effect.ensures.err saved))

pub returns-in_err-effect-clause-words : goal.returns-in_err-effect-clause-words
returns-in_err-effect-clause-words c = later_again c.args.words.now c.conflicts.words c.take_conflict.new.words c.conflicts.invariant.later c.take_conflict.ensures.words

pub returns-in_err-add-clause-words : goal.returns-in_err-add-clause-words
returns-in_err-add-clause-words c = later_again c.args.words.now c.conflicts.words c.take_conflict.new.words c.conflicts.invariant.later c.take_conflict.ensures.words

pub conflicts-preserved : goal.conflicts-preserved
conflicts-preserved c =
    let p = so_far (row_in c.args.rows.now) c.args.taken.now c.args.words.now in
    let q = so_far (row_in c.args.rows.now) c.conflicts.taken c.conflicts.words in
    let r = so_far (row_in c.args.rows.now) c.add.new.self c.take_conflict.new.words in
    let sets = c.args.sets.now in
    let saved = c.args.saved.now in
    record {
      takes = takes_more is_conflict sets saved p q r c.args.conflicts.now c.conflicts.conflict-index c.conflict-item.result (omega arith) c.conflict-item.is c.conflicts.invariant.takes
          (subst (λ (z : Progress). Takes sets saved q (is_conflict c.conflict-item.result) z)
          (sym (c.in_ok-add.ensures (row_in c.args.rows.now) c.conflicts.words c.take_conflict.new.words)) (c.in_ok-effect.ensures.ok saved));
      later = later_again c.args.words.now c.conflicts.words c.take_conflict.new.words c.conflicts.invariant.later c.take_conflict.ensures.words;
    }

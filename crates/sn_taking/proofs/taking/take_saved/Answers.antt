use Rattle.std.proofs.Common.{map, refl, arith, subst, sym, true}
use Rattle.sn_row_map.specs.RowMaps.{row_in}
use Rattle.sn_sets.proofs.Facts.{later_again}
use Rattle.sn_taking.specs.Taken.{StopsBy, StopsServer, so_far}
use Rattle.sn_device.specs.Taking.{Progress, RunsOut, Takes, is_saved}
use Rattle.sn_taking.proofs.TakingLemmas.{err_as, runs_out, server_stops, stops_more, takes_more}
use Rattle.sn_taking.proofs.taking.take_saved.Goals as goal

pub returns-in_err-effect-clause-err : goal.returns-in_err-effect-clause-err
returns-in_err-effect-clause-err c =
    let p = so_far (row_in c.args.rows.now) c.args.taken.now c.args.words.now in
    let q = so_far (row_in c.args.rows.now) c.saved.taken c.saved.words in
    let sets = c.args.sets.now in
    let saved = c.args.saved.now in
    err_as c.from_residual.result c.in_err-effect.field-0.0 (StopsBy (RunsOut sets saved p (map is_saved c.args.saved.now))) c.from_residual.ensures.1
    (stops_more (StopsServer sets q c.item-item.result true) (RunsOut sets saved p (map is_saved c.args.saved.now)) c.in_err-effect.field-0.0
    (λ why stops.
    runs_out is_saved sets saved p q c.args.saved.now c.saved.item-index c.item-item.result (omega arith) c.item-item.is c.saved.invariant.takes why
    (server_stops sets saved q (is_saved c.item-item.result) c.item-item.result true (refl, refl) why stops))
    c.in_err-effect.ensures.err)

pub returns-in_err-effect-clause-words : goal.returns-in_err-effect-clause-words
returns-in_err-effect-clause-words c = later_again c.args.words.now c.saved.words c.take_server.new.words c.saved.invariant.later c.take_server.ensures.words

pub returns-in_err-add-clause-words : goal.returns-in_err-add-clause-words
returns-in_err-add-clause-words c = later_again c.args.words.now c.saved.words c.take_server.new.words c.saved.invariant.later c.take_server.ensures.words

pub saved-preserved : goal.saved-preserved
saved-preserved c =
    let p = so_far (row_in c.args.rows.now) c.args.taken.now c.args.words.now in
    let q = so_far (row_in c.args.rows.now) c.saved.taken c.saved.words in
    let r = so_far (row_in c.args.rows.now) c.add.new.self c.take_server.new.words in
    let sets = c.args.sets.now in
    let saved = c.args.saved.now in
    record {
      takes = takes_more is_saved sets saved p q r c.args.saved.now c.saved.item-index c.item-item.result (omega arith) c.item-item.is c.saved.invariant.takes
          (subst (λ (z : Progress). Takes sets saved q (is_saved c.item-item.result) z)
          (sym (c.in_ok-add.ensures (row_in c.args.rows.now) c.saved.words c.take_server.new.words)) c.in_ok-effect.ensures.ok);
      later = later_again c.args.words.now c.saved.words c.take_server.new.words c.saved.invariant.later c.take_server.ensures.words;
    }

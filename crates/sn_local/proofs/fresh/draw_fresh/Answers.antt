use Rattle.std.proofs.Common.{subst, arith}
use Rattle.sn_row_map.specs.RowMaps.{row_in}
use Rattle.sn_rows.specs.Table.{rows_after}
use Rattle.sn_local.proofs.DrawLemmas.{HasDrawn, draws_no_fresh, drawn_first, drawn_more}
use Rattle.sn_local.proofs.fresh.draw_fresh.Goals as goal

pub draws-init : goal.draws-init
draws-init c = record {
  drew = drawn_first (rows_after (row_in c.args.rows.now) c.args.changes.now) c.args.words.now c.uuid-drawn.result c.uuid-drawn.new.self c.uuid-drawn.ensures;
  few = omega arith;
}

pub returns-then-draws-eq-MOST_DRAWS-clause-err : goal.returns-then-draws-eq-MOST_DRAWS-clause-err
returns-then-draws-eq-MOST_DRAWS-clause-err c =
    let rows = rows_after (row_in c.args.rows.now) c.args.changes.now in
    draws_no_fresh rows c.args.words.now c.draws.drawn c.draws.words
    (subst (λ n. HasDrawn rows c.args.words.now c.draws.drawn n c.draws.words) (omega arith) c.draws.invariant.drew) c.draws-test.ensures

pub draws-preserved : goal.draws-preserved
draws-preserved c = record {
  drew = drawn_more (rows_after (row_in c.args.rows.now) c.args.changes.now) c.args.words.now c.draws.words c.draws.drawn c.uuid-drawn-in-draws.result c.draws.draws
      c.uuid-drawn-in-draws.new.self c.draws.invariant.drew c.draws-test.ensures c.uuid-drawn-in-draws.ensures;
  few = omega arith;
}

use Rattle.sn_row_map.specs.RowMaps.{row_in}
use Rattle.sn_telling.proofs.WalkLemmas.{rows_more}
use Rattle.sn_telling.proofs.gaining.change_all.Goals as goal

pub batches-preserved : goal.batches-preserved
batches-preserved c =
    rows_more (row_in c.args.rows.now) (row_in c.batches.rows) (row_in c.change_rows.new.rows) c.batches.yielded c.in-Some.batch c.batches.invariant
    c.in_ok-change_rows.ensures

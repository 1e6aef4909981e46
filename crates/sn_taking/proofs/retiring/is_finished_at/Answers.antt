use Rattle.sn_row_map.specs.RowMaps.{row_in}
use Rattle.sn_rows.specs.Table.{rows_after}
use Rattle.sn_taking.proofs.RetireLemmas.{finished_at}
use Rattle.sn_local.proofs.Facts.{tests_same}
use Rattle.sn_taking.proofs.retiring.is_finished_at.Goals as goal

pub returns-in-Local : goal.returns-in-Local
returns-in-Local c =
    tests_same c.is_finished_local.result
    (finished_at (rows_after (row_in c.args.rows.now) c.args.changes.now) c.args.set.now c.args.at c.in-Local.number c.in-Local.is)
    (λ so local has. so c.in-Local.number local c.in-Local.is has) c.is_finished_local.ensures

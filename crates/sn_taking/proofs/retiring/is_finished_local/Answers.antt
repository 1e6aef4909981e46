use Rattle.std.proofs.Common.{refl}
use Rattle.sn_row_map.specs.RowMaps.{row_in}
use Rattle.sn_rows.specs.Table.{rows_after}
use Rattle.sn_taking.proofs.RetireLemmas.{local_so}
use Rattle.sn_local.proofs.Facts.{tests_same}
use Rattle.sn_taking.proofs.retiring.is_finished_local.Goals as goal

pub returns-in-Some : goal.returns-in-Some
returns-in-Some c =
    tests_same c.is_finished.result
    (local_so (rows_after (row_in c.args.rows.now) c.args.changes.now) c.args.set.now c.args.number c.in-Some.item.now c.in-Some.ensures.some)
    (λ all. all c.in-Some.item.now c.in-Some.ensures.some) c.is_finished.ensures

pub returns-in-None : goal.returns-in-None
returns-in-None c = (λ _ local has. absurd (c.in-None.ensures.none local has), λ _. refl)

use Rattle.sn_row_map.specs.RowMaps.{row_in}
use Rattle.sn_table.specs.Tables.{table_rows}
use Rattle.sn_drafts.proofs.DraftLemmas.{delete_free, delete_made, delete_runs}
use Rattle.sn_drafts.proofs.drafting.delete_under.Goals as goal

pub returns-in_default-clause-err : goal.returns-in_default-clause-err
returns-in_default-clause-err g c = λ words.
    let holds = c.requires.holds in
    delete_free (row_in (table_rows c.args.table.now)) c.args.uuid holds.0 holds.1 holds.2 words c.in_default.ensures.none

pub returns-clause-step : goal.returns-clause-step
returns-clause-step g c =
    delete_made (row_in (table_rows c.args.table.now)) c.args.uuid c.in-Some.number c.in-Some.item.now c.in_ok-change.change c.in_ok-changes.changes.items c.in-Some.ensures.some
    c.in_ok-change.ensures c.in_ok-changes.ensures

pub returns-clause-runs : goal.returns-clause-runs
returns-clause-runs g c = λ words.
    let holds = c.requires.holds in
    delete_runs (row_in (table_rows c.args.table.now)) c.args.uuid holds.0 holds.1 holds.2 words c.in_ok-changes.changes.items
    (delete_made (row_in (table_rows c.args.table.now)) c.args.uuid c.in-Some.number c.in-Some.item.now c.in_ok-change.change c.in_ok-changes.changes.items c.in-Some.ensures.some
    c.in_ok-change.ensures c.in_ok-changes.ensures)

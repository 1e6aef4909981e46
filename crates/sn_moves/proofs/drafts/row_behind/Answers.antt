use Rattle.std.proofs.Common.{Option, sym, ap, ◌∙◌, take}
use Rattle.sn_row_map.specs.RowMaps.{row_in}
use Rattle.sn_rows.specs.Table.{changed, rows_after}
use Rattle.sn_rows.specs.declared.change.Change.{Change}
use Rattle.sn_rows.specs.declared.value.Value.{Value}
use Rattle.sn_moves.proofs.WalkLemmas.{row_more}
use Rattle.sn_moves.proofs.drafts.row_behind.Goals as goal

pub changes-preserved : goal.changes-preserved
changes-preserved c =
    let i = c.changes.change-index in
    let key = c.args.key.now in
    let item = c.change-item.result in
    c.changed-found.ensures
    ∙ ap (λ (found : Option Value). changed found key item) c.changes.invariant
    ∙ ap (λ (change : Change). changed (rows_after (row_in c.args.rows.now) (take i c.args.changes.now) key) key change) c.change-item.is
    ∙ sym (row_more (row_in c.args.rows.now) c.args.changes.now i item key c.changes-test.true)

use Rattle.std.proofs.Common.{◌∙◌, Option, sym, ap, arith}
use Rattle.sn_row_map.specs.RowMaps.{row_in}
use Rattle.sn_rows.specs.Table.{changed}
use Rattle.sn_rows.specs.declared.value.Value.{Value}
use Rattle.sn_local.proofs.FoundLemmas.{found_more}
use Rattle.sn_local.proofs.behind.value_after.Goals as goal

pub changes-preserved : goal.changes-preserved
changes-preserved c =
    c.found_after-found.ensures
    ∙ ap (λ (found : Option Value). changed found c.args.key c.change-item.result) c.changes.invariant
    ∙ sym (found_more (row_in c.args.rows.now c.args.key) c.args.key c.args.changes.now c.changes.change-index c.change-item.result (omega arith) c.change-item.is)

use Rattle.std.proofs.Common.{◌∙◌, take, sym, ap, arith}
use Rattle.sn_rows.specs.Table.{row_after}
use Rattle.sn_rows.specs.declared.key.Key.TheVariants as key
use Rattle.sn_account.specs.States.{state_rows}
use Rattle.sn_account.specs.Taking.{item_in}
use Rattle.sn_account.proofs.TakenLemmas.{found_more}
use Rattle.sn_account.proofs.taking.stored.Goals as goal

pub changes-preserved : goal.changes-preserved
changes-preserved c =
    c.item_after-found.ensures
    (row_after (state_rows c.args.state.now (key.Item c.args.uuid)) (key.Item c.args.uuid) (take c.changes.change-index c.as_slice-change-items.result.now))
    c.changes.invariant
    ∙ ap item_in (sym (found_more (state_rows c.args.state.now (key.Item c.args.uuid)) (key.Item c.args.uuid) c.as_slice-change-items.result.now
    c.changes.change-index c.change-item.result (omega arith) c.change-item.is))

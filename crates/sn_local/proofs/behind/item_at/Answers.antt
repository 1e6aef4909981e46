use Rattle.std.proofs.Common.{below_more, arith}
use Rattle.std.specs.List.{HoldsAt}
use Rattle.std.proofs.lemmas.List.Elements.{at_read}
use Rattle.sn_row_map.specs.RowMaps.{row_in}
use Rattle.sn_rows.specs.Table.{rows_after}
use Rattle.sn_local.specs.Found.{IsGone}
use Rattle.sn_local.proofs.FoundLemmas.{free_from, left_of_one}
use Rattle.sn_local.proofs.behind.item_at.Goals as goal

pub changes-preserved : goal.changes-preserved
changes-preserved c =
    let rows = rows_after (row_in c.args.rows.now) c.args.changes.now in
    below_more (λ k. HoldsAt (IsGone rows c.args.uuid) c.args.changes.now k) c.changes.change-index c.changes.invariant
    (at_read c.args.changes.now (IsGone rows c.args.uuid) c.changes.change-index c.change-item.result (omega arith) c.change-item.is c.in_default.ensures.none)

pub returns-in_default-find_in-clause-none : goal.returns-in_default-find_in-clause-none
returns-in_default-find_in-clause-none c =
    free_from (row_in c.args.rows.now) c.args.changes.now c.args.uuid
    (λ k below. c.changes.invariant k (omega arith)) (λ n local has other there. c.in_default-find_in.ensures.none n local has)

pub returns-in-None-clause-none : goal.returns-in-None-clause-none
returns-in-None-clause-none c =
    free_from (row_in c.args.rows.now) c.args.changes.now c.args.uuid
    (λ k below. c.changes.invariant k (omega arith))
    (left_of_one (row_in c.args.rows.now) (rows_after (row_in c.args.rows.now) c.args.changes.now) c.args.uuid c.in-Some-find_in.number c.in-Some-find_in.field-0-1.now
    c.requires.apart c.in-Some-find_in.ensures.some c.in-None.ensures.none)

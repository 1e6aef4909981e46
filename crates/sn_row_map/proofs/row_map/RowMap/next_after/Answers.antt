use Rattle.std.proofs.Common.{sym}
use Rattle.sn_row_map.proofs.StepLemmas.{are_rows, begins_next, forward_from, is_next, next_goes_on}
use Rattle.sn_row_map.proofs.row_map.RowMap.next_after.Goals as goal

pub first_between-requires : goal.first_between-requires
first_between-requires c = forward_from _ _ (c.bounds_of-end.ensures.whole c.args.key.now (sym c.kind-kind.ensures)).1

pub returns-clause-rows : goal.returns-clause-rows
returns-clause-rows c = are_rows _ _ c.first_between.ensures.ordered

pub returns-clause-next : goal.returns-clause-next
returns-clause-next c =
    is_next _ _ _ (are_rows _ _ c.first_between.ensures.ordered)
    (begins_next _ _ _ _ _ _ c.kind-kind.ensures c.bounds_of-end.ensures.whole c.first_between.ensures.found)

pub returns-clause-walk : goal.returns-clause-walk
returns-clause-walk c =
    next_goes_on _ _ _ (are_rows _ _ c.first_between.ensures.ordered)
    (begins_next _ _ _ _ _ _ c.kind-kind.ensures c.bounds_of-end.ensures.whole c.first_between.ensures.found)

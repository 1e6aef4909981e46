use Rattle.sn_row_map.proofs.StepLemmas.{are_rows, begins_all, first_goes_on, is_first}
use Rattle.sn_row_map.proofs.row_map.RowMap.first.Goals as goal

pub returns-clause-rows : goal.returns-clause-rows
returns-clause-rows c = are_rows _ _ c.first_between.ensures.ordered

pub returns-clause-first : goal.returns-clause-first
returns-clause-first c =
    is_first _ _ _ (are_rows _ _ c.first_between.ensures.ordered) (begins_all _ _ _ _ _ c.bounds_of-start.ensures.whole c.first_between.ensures.found)

pub returns-clause-walk : goal.returns-clause-walk
returns-clause-walk c =
    first_goes_on _ _ _ (are_rows _ _ c.first_between.ensures.ordered) (begins_all _ _ _ _ _ c.bounds_of-start.ensures.whole c.first_between.ensures.found)

use Rattle.sn_row_map.proofs.RowLemmas.{none_tidy}
use Rattle.sn_row_map.proofs.row_map.RowMap.new.Goals as goal

pub returns-clause-tidy : goal.returns-clause-tidy
returns-clause-tidy c = none_tidy _ c.new.ensures.empty

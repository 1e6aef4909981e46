use Rattle.std.proofs.Common.{ap, subst, sym}
use Rattle.sn_rows.specs.Table.{key_of}
use Rattle.sn_row_map.specs.RowMaps.{IsSwept}
use Rattle.sn_row_map.proofs.RowLemmas.{filled_swept, swept_filled}
use Rattle.sn_row_map.proofs.row_map.RowMap.set.Goals as goal

pub returns-in-Put-clause-filled : goal.returns-in-Put-clause-filled
returns-in-Put-clause-filled c = λ none. (
  subst (IsSwept c.fill.new.self) (sym (ap key_of c.in-Put.is)) (filled_swept _ _ _ _ c.fill.ensures.rows),
  swept_filled _ _ _ _ c.fill.ensures.rows c.fill.ensures.others,
)

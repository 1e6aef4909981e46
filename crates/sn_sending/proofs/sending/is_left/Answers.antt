use Rattle.std.proofs.Common.{rules}
use Rattle.sn_row_map.specs.RowMaps.{row_in}
use Rattle.sn_table.specs.Tables.{table_rows}
use Rattle.sn_sending.proofs.SendLemmas.{left_none, left_some}
use Rattle.sn_sending.proofs.sending.is_left.Goals as goal

pub returns-clause-some : goal.returns-clause-some
returns-clause-some g c = λ is. left_some (row_in (table_rows c.args.table.now)) c.first_waiting.result c.first_waiting.ensures.some (search rules)

pub returns-clause-none : goal.returns-clause-none
returns-clause-none g c = λ is. left_none (row_in (table_rows c.args.table.now)) c.first_waiting.result c.first_waiting.ensures.none (λ some. search rules)

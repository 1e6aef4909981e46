use Rattle.sn_row_map.specs.RowMaps.{row_in}
use Rattle.sn_local.proofs.StateLemmas.{none_waits}
use Rattle.sn_local.proofs.state.first_waiting_in.Goals as goal

pub returns-clause-none : goal.returns-clause-none
returns-clause-none c = none_waits (row_in c.args.rows.now) c.waiting_behind.result c.waiting_behind.ensures.none

use Rattle.sn_row_map.specs.RowMaps.{row_in}
use Rattle.sn_table.specs.Tables.{table_rows}
use Rattle.sn_sending.proofs.SendLemmas.{posts_owned, sends_them}
use Rattle.sn_sending.proofs.sending.next_sending.Goals as goal

pub returns-clause-sends : goal.returns-clause-sends
returns-clause-sends g c =
    sends_them (row_in (table_rows c.args.table.now)) c.args.account.now c.in_ok-chosen.chosen c.in_ok-request.request c.requires.owned
    c.in_ok-chosen.ensures c.in_ok-request.ensures

pub returns-clause-owned : goal.returns-clause-owned
returns-clause-owned g c = posts_owned (row_in (table_rows c.args.table.now)) c.in_ok-chosen.chosen c.in_ok-chosen.ensures

-- What was chosen so far, and what is next.
use Rattle.std.specs.Prelude.{◌-◌, length}
use Rattle.sn_row_map.specs.RowMaps.{row_in}
use Rattle.sn_table.specs.Tables.{table_rows}
use Rattle.sn_device.specs.Sending.{most_sent}
use Rattle.sn_sending.proofs.SendLemmas.{IsAt, lent_item}
use Rattle.sn_sending.proofs.sending.choose.Given as goal

abbrev pub invariant-waiting : goal.invariant-waiting
invariant-waiting g l = IsAt (row_in (table_rows l.table)) l.account.next (lent_item l.next) l.chosen

abbrev pub decreases-waiting : goal.decreases-waiting
decreases-waiting g l = most_sent - length l.chosen.items.items

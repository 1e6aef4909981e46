use Rattle.sn_row_map.specs.RowMaps.{row_in}
use Rattle.sn_table.specs.Tables.{table_rows}
use Rattle.sn_joining.proofs.accounts.renewed_row.Goals as goal

pub returns-in-Ok-clause-ok : goal.returns-in-Ok-clause-ok
returns-in-Ok-clause-ok g c = (
  c.in_ok-account.account.uuid,
  c.in_ok-account.account.token,
  c.in_ok-account.ensures.gives,
  c.in-Ok.ensures.renews (row_in (table_rows c.args.table.now)) c.in-Some.ensures.some,
)

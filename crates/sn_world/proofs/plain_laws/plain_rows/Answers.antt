use Rattle.sn_world.proofs.PlainRows.{plain_rows}
use Rattle.sn_world.proofs.plain_laws.plain_rows.Goals as goal

pub returns : goal.returns
returns c = plain_rows

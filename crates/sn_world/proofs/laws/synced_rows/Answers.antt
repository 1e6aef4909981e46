use Rattle.sn_world.proofs.Synced.{synced_rows}
use Rattle.sn_world.proofs.laws.synced_rows.Goals as goal

pub returns : goal.returns
returns c = synced_rows c.versions_rise.ensures

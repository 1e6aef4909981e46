use Rattle.sn_world.proofs.SyncsEnd.{syncs_end}
use Rattle.sn_world.proofs.laws.syncs_end.Goals as goal

pub returns : goal.returns
returns c = syncs_end c.applied_whole.ensures c.synced_rows.ensures c.keeps.ensures c.syncs_go.ensures

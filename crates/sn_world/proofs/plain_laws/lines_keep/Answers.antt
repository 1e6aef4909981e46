use Rattle.sn_world.proofs.Sessions.{lines_keep}
use Rattle.sn_world.proofs.plain_laws.lines_keep.Goals as goal

pub returns : goal.returns
returns c = lines_keep c.plain_first.ensures c.lines_go.ensures

use Rattle.sn_shows.proofs.ServersKeep.{register_keeps}
use Rattle.sn_shows.proofs.server_laws.register_keeps.Goals as goal

pub returns : goal.returns
returns c = register_keeps

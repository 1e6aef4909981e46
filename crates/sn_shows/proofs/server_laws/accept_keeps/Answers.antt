use Rattle.sn_shows.proofs.ServersKeep.{accept_keeps}
use Rattle.sn_shows.proofs.server_laws.accept_keeps.Goals as goal

pub returns : goal.returns
returns c = accept_keeps

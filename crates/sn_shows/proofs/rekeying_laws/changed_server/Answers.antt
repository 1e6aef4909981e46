use Rattle.sn_shows.proofs.RekeyedServer.{changed_server}
use Rattle.sn_shows.proofs.rekeying_laws.changed_server.Goals as goal

pub returns : goal.returns
returns c = changed_server

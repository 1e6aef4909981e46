use Rattle.sn_shows.proofs.ServersApart.{accounts_apart}
use Rattle.sn_shows.proofs.server_laws.accounts_apart.Goals as goal

pub returns : goal.returns
returns c = accounts_apart

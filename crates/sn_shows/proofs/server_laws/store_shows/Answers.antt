use Rattle.sn_shows.proofs.ServersStore.{store_shows}
use Rattle.sn_shows.proofs.server_laws.store_shows.Goals as goal

pub returns : goal.returns
returns c = store_shows

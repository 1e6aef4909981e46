use Rattle.sn_shows.proofs.DeviceOwners.{tokens_show}
use Rattle.sn_shows.proofs.device_laws.tokens_show.Goals as goal

pub returns : goal.returns
returns c = tokens_show

use Rattle.sn_shows.proofs.DeviceOwners.{joined_shows}
use Rattle.sn_shows.proofs.device_laws.joined_shows.Goals as goal

pub returns : goal.returns
returns c = joined_shows

use Rattle.sn_shows.proofs.AdoptedDevice.{adopted_shows}
use Rattle.sn_shows.proofs.adopting_laws.adopted_shows.Goals as goal

pub returns : goal.returns
returns c = adopted_shows

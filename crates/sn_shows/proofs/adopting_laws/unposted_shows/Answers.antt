use Rattle.sn_shows.proofs.AdoptedPosted.{unposted_shows}
use Rattle.sn_shows.proofs.adopting_laws.unposted_shows.Goals as goal

pub returns : goal.returns
returns c = unposted_shows

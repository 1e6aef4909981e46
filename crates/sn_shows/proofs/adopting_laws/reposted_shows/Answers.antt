use Rattle.sn_shows.proofs.AdoptedPosted.{reposted_shows}
use Rattle.sn_shows.proofs.adopting_laws.reposted_shows.Goals as goal

pub returns : goal.returns
returns c = reposted_shows

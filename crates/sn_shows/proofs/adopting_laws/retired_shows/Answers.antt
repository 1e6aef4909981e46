use Rattle.sn_shows.proofs.AdoptedRetired.{retired_shows}
use Rattle.sn_shows.proofs.adopting_laws.retired_shows.Goals as goal

pub returns : goal.returns
returns c = retired_shows

use Rattle.sn_adopted.proofs.Adopting.{adopt_shows}
use Rattle.sn_adopted.proofs.laws.adopt_shows.Goals as goal

pub returns : goal.returns
returns c = adopt_shows

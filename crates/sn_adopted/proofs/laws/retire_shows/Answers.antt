use Rattle.sn_adopted.proofs.Retiring.{retire_shows}
use Rattle.sn_adopted.proofs.laws.retire_shows.Goals as goal

pub returns : goal.returns
returns c = retire_shows

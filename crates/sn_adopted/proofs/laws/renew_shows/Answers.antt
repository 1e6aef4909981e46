use Rattle.sn_adopted.proofs.Asking.{renew_shows}
use Rattle.sn_adopted.proofs.laws.renew_shows.Goals as goal

pub returns : goal.returns
returns c = renew_shows

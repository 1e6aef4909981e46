use Rattle.sn_adopted.proofs.Asking.{forget_shows}
use Rattle.sn_adopted.proofs.laws.forget_shows.Goals as goal

pub returns : goal.returns
returns c = forget_shows

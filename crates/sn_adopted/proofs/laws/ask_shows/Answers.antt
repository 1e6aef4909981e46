use Rattle.sn_adopted.proofs.Asking.{ask_shows}
use Rattle.sn_adopted.proofs.laws.ask_shows.Goals as goal

pub returns : goal.returns
returns c = ask_shows

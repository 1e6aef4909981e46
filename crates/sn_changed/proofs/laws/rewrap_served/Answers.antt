use Rattle.sn_changed.proofs.Rewrapped.{rewrap_served}
use Rattle.sn_changed.proofs.laws.rewrap_served.Goals as goal

pub returns : goal.returns
returns c = rewrap_served c.rewrapped_shows.ensures

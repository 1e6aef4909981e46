use Rattle.sn_changed.proofs.Rewrapped.{rewrap_taken}
use Rattle.sn_changed.proofs.laws.rewrap_taken.Goals as goal

pub returns : goal.returns
returns c = rewrap_taken c.rewrapped_shows.ensures c.rewrapped_last.ensures

use Rattle.sn_shows.proofs.RekeyedItems.{rewrapped_shows}
use Rattle.sn_shows.proofs.rekeying_laws.rewrapped_shows.Goals as goal

pub returns : goal.returns
returns c = rewrapped_shows

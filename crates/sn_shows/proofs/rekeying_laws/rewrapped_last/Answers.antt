use Rattle.sn_shows.proofs.RekeyedLast.{rewrapped_last}
use Rattle.sn_shows.proofs.rekeying_laws.rewrapped_last.Goals as goal

pub returns : goal.returns
returns c = rewrapped_last

use Rattle.sn_shows.proofs.RekeyedKeeps.{rewrap_keeps}
use Rattle.sn_shows.proofs.rekeying_laws.rewrap_keeps.Goals as goal

pub returns : goal.returns
returns c = rewrap_keeps

use Rattle.sn_shows.proofs.RekeyedKeeps.{change_keeps}
use Rattle.sn_shows.proofs.rekeying_laws.change_keeps.Goals as goal

pub returns : goal.returns
returns c = change_keeps

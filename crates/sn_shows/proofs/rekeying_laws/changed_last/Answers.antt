use Rattle.sn_shows.proofs.RekeyedLast.{changed_last}
use Rattle.sn_shows.proofs.rekeying_laws.changed_last.Goals as goal

pub returns : goal.returns
returns c = changed_last

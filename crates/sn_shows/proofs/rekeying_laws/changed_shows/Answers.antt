use Rattle.sn_shows.proofs.RekeyedSets.{changed_shows}
use Rattle.sn_shows.proofs.rekeying_laws.changed_shows.Goals as goal

pub returns : goal.returns
returns c = changed_shows

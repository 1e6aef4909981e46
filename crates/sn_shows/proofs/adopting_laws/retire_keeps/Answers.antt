use Rattle.sn_shows.proofs.AdoptedRetired.{retire_keeps}
use Rattle.sn_shows.proofs.adopting_laws.retire_keeps.Goals as goal

pub returns : goal.returns
returns c = retire_keeps

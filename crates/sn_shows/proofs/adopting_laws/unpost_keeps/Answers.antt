use Rattle.sn_shows.proofs.AdoptedRetired.{unpost_keeps}
use Rattle.sn_shows.proofs.adopting_laws.unpost_keeps.Goals as goal

pub returns : goal.returns
returns c = unpost_keeps

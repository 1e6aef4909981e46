use Rattle.sn_laws.proofs.IdentifierLemmas.{identifiers_differ}
use Rattle.sn_laws.proofs.state_laws.identifiers_differ.Goals as goal

pub returns : goal.returns
returns c = identifiers_differ

use Rattle.sn_laws.proofs.IdentifierLemmas.{nonces_differ}
use Rattle.sn_laws.proofs.state_laws.nonces_differ.Goals as goal

pub returns : goal.returns
returns c = nonces_differ

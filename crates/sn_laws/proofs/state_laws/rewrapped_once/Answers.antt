use Rattle.sn_laws.proofs.SealedLemmas.{rewrapped_once}
use Rattle.sn_laws.proofs.state_laws.rewrapped_once.Goals as goal

pub returns : goal.returns
returns c = rewrapped_once

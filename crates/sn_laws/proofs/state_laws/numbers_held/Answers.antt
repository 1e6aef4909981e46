use Rattle.sn_laws.proofs.NumberLemmas.{numbers_all_held}
use Rattle.sn_laws.proofs.state_laws.numbers_held.Goals as goal

pub returns : goal.returns
returns c = numbers_all_held

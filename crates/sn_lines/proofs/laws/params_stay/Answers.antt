use Rattle.sn_lines.proofs.ParamsLemmas.{params_stay}
use Rattle.sn_lines.proofs.laws.params_stay.Goals as goal

pub returns : goal.returns
returns c = params_stay

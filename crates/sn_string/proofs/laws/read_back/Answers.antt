use Rattle.sn_string.proofs.Unique.{read_back}
use Rattle.sn_string.proofs.laws.read_back.Goals as goal

pub returns : goal.returns
returns c = read_back

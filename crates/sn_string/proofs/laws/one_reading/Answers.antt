use Rattle.sn_string.proofs.Unique.{one_reading}
use Rattle.sn_string.proofs.laws.one_reading.Goals as goal

pub returns : goal.returns
returns c = one_reading

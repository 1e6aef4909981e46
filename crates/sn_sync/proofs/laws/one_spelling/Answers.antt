use Rattle.sn_sync.proofs.OneStamp.{one_spelling}
use Rattle.sn_sync.proofs.laws.one_spelling.Goals as goal

pub returns : goal.returns
returns c = one_spelling

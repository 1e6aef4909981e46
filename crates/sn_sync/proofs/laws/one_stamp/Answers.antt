use Rattle.sn_sync.proofs.OneStamp.{one_stamp}
use Rattle.sn_sync.proofs.laws.one_stamp.Goals as goal

pub returns : goal.returns
returns c = one_stamp

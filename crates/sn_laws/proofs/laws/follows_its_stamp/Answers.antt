use Rattle.sn_laws.proofs.FollowLemmas.{follows_stamp}
use Rattle.sn_laws.proofs.laws.follows_its_stamp.Goals as goal

pub returns : goal.returns
returns c = follows_stamp

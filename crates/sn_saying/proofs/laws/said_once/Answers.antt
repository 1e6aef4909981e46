use Rattle.sn_saying.proofs.OneServed.{said_once}
use Rattle.sn_saying.proofs.laws.said_once.Goals as goal

pub returns : goal.returns
returns c = said_once

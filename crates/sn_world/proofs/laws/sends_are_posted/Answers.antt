use Rattle.sn_world.proofs.SendsPosted.{sends_are_posted}
use Rattle.sn_world.proofs.laws.sends_are_posted.Goals as goal

pub returns : goal.returns
returns c = sends_are_posted

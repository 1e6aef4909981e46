use Rattle.sn_disk.proofs.Stops.{reached}
use Rattle.sn_disk.proofs.laws.stops_in_its_call.Goals as goal

pub returns : goal.returns
returns c = reached

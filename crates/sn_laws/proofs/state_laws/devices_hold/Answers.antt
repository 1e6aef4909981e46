use Rattle.sn_laws.proofs.HoldLemmas.{devices_all_hold}
use Rattle.sn_laws.proofs.state_laws.devices_hold.Goals as goal

pub returns : goal.returns
returns c = devices_all_hold

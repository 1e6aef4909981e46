use Rattle.sn_finished.proofs.RetiredLemmas.{retired_unused}
use Rattle.sn_finished.proofs.laws.retired_unused.Goals as goal

pub returns : goal.returns
returns c = retired_unused c.devices_hold.ensures

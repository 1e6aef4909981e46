use Rattle.sn_changed.proofs.SessionsBehind.{change_spares}
use Rattle.sn_changed.proofs.laws.change_spares.Goals as goal

pub returns : goal.returns
returns c = change_spares

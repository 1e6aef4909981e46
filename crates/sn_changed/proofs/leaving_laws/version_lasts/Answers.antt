use Rattle.sn_changed.proofs.Left.{version_lasts}
use Rattle.sn_changed.proofs.leaving_laws.version_lasts.Goals as goal

pub returns : goal.returns
returns c = version_lasts

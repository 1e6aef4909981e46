use Rattle.sn_changed.proofs.Left.{version_on_last}
use Rattle.sn_changed.proofs.leaving_laws.version_on_last.Goals as goal

pub returns : goal.returns
returns c = version_on_last

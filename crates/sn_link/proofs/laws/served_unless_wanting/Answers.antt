use Rattle.sn_link.proofs.Serving.{unless_wanting}
use Rattle.sn_link.proofs.laws.served_unless_wanting.Goals as goal

pub returns : goal.returns
returns c = unless_wanting

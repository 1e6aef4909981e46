use Rattle.sn_changed.proofs.SessionsBehind.{item_sessions}
use Rattle.sn_changed.proofs.laws.item_sessions.Goals as goal

pub returns : goal.returns
returns c = item_sessions

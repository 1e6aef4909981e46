use Rattle.sn_changed.proofs.SessionsBehind.{change_sessions}
use Rattle.sn_changed.proofs.laws.change_sessions.Goals as goal

pub returns : goal.returns
returns c = change_sessions

use Rattle.sn_lines.proofs.PasswordLines.{apart_may_call}
use Rattle.sn_lines.proofs.laws.apart_may_call.Goals as goal
use Rattle.sn_lines.specs.Passwords.{IsAmong}

pub returns : goal.returns
returns c passwords = apart_may_call (IsAmong passwords)

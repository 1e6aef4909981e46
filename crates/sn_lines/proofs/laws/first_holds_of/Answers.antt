use Rattle.sn_lines.proofs.PasswordLines.{first_holds_of}
use Rattle.sn_lines.proofs.laws.first_holds_of.Goals as goal
use Rattle.sn_lines.specs.Passwords.{IsAmong}

pub returns : goal.returns
returns c passwords = first_holds_of (IsAmong passwords)

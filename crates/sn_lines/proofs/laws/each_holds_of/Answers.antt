use Rattle.sn_lines.proofs.PasswordLines.{each_holds_of}
use Rattle.sn_lines.proofs.laws.each_holds_of.Goals as goal
use Rattle.sn_lines.specs.Passwords.{IsAmong}

pub returns : goal.returns
returns c passwords = each_holds_of (IsAmong passwords) c.steps_stay_sound.ensures

use Rattle.sn_lines.proofs.WithPasswords.{all_keep_with}
use Rattle.sn_lines.proofs.laws.all_keep_with.Goals as goal
use Rattle.sn_lines.specs.Passwords.{IsAmong}

pub returns : goal.returns
returns c passwords =
    all_keep_with (IsAmong passwords) c.holds_first.ensures c.all_fit_first.ensures (c.first_holds_of.ensures passwords) (c.all_go_with.ensures passwords)

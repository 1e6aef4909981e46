use Rattle.sn_lines.proofs.WithPasswords.{all_go_with}
use Rattle.sn_lines.proofs.laws.all_go_with.Goals as goal
use Rattle.sn_lines.specs.Passwords.{IsAmong}

pub returns : goal.returns
returns c passwords =
    all_go_with (IsAmong passwords) c.requests_fit.ensures c.each_fits.ensures c.each_leads.ensures c.each_keeps.ensures (c.apart_may_call.ensures passwords)
    (c.each_holds_of.ensures passwords)

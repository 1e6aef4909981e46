use Rattle.sn_local.proofs.state.key_set_in.Goals as goal

pub returns-in_ok-key_set-in-Some : goal.returns-in_ok-key_set-in-Some
returns-in_ok-key_set-in-Some c = (c.in-Some.keys.now, c.in-Some.ensures.some, c.in_ok-key_set-in-Some.ensures)

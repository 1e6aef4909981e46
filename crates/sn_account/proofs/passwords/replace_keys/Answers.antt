use Rattle.std.proofs.Common.{◌+◌, add-one}
use Rattle.sn_account.specs.States.{state_rows}
use Rattle.sn_account.proofs.PasswordLemmas.{replaces}
use Rattle.sn_account.proofs.passwords.replace_keys.Goals as goal

pub returns : goal.returns
returns c = λ store has.
    let made = c.in_ok-changes.ensures in
    replaces (state_rows c.args.state.now) store c.in-Some.store.now c.args.number c.args.account.now c.args.pw.now c.args.cost c.args.nonce.now
    (c.args.account.now.generation + 1) has c.in-Some.ensures.some (add-one c.args.account.now.generation)
    made.0 made.1 made.2 made.3 c.in_ok-changes.changes made.4 c.in_ok-answer.answer c.in_ok-answer.ensures

use Rattle.sn_account.specs.States.{state_rows}
use Rattle.sn_account.proofs.PasswordLemmas.{changes_done, changes_refused}
use Rattle.sn_account.proofs.passwords.change_keys.Goals as goal

pub returns-in-Some : goal.returns-in-Some
returns-in-Some c = λ store has.
    changes_refused (state_rows c.args.state.now) store c.args.number c.args.account.now c.in_ok-present.present c.args.pw.now c.args.cost
    c.args.nonce.now c.unchanged.result c.in-Some.answer c.in_ok-present.ensures
    ((rw c.in-Some.is at c.in_ok-answer.ensures.some) store c.args.pw.now c.args.cost) c.unchanged.ensures.changes c.unchanged.ensures.answer

pub returns : goal.returns
returns c = λ store has.
    changes_done (state_rows c.args.state.now) store c.args.number c.args.account.now c.in_ok-present.present c.args.pw.now c.args.cost
    c.args.nonce.now c.replace_keys.result c.in_ok-present.ensures (rw c.in_default.is at c.in_ok-answer.ensures.none)
    (c.replace_keys.ensures store has)

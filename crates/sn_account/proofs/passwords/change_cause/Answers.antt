use Rattle.sn_account.specs.States.{state_rows}
use Rattle.sn_account.proofs.PasswordLemmas.{generations_used}
use Rattle.sn_account.proofs.passwords.change_cause.Goals as goal

pub returns-clause-some : goal.returns-clause-some
returns-clause-some c =
    generations_used (state_rows c.args.state.now) c.args.number c.args.account.now c.args.present.now c.args.nonce.now c.used_cause.result c.requires.sound
    c.requires.there (rw c.in_default.is at c.in_ok-uuid.ensures.none)
    (λ used. let holds = c.is_used.ensures.1 used in let not = c.if-is_used.false in cc) c.used_cause.ensures.some

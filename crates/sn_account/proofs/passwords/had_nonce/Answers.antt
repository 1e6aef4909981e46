use Rattle.std.proofs.Common.{◌∙◌, ap}
use Rattle.sn_rows.specs.declared.server_rows.GenerationRow.{GenerationRow}
use Rattle.sn_account.specs.States.{state_rows}
use Rattle.sn_account.proofs.PasswordLemmas.{one_generation}
use Rattle.sn_account.proofs.passwords.had_nonce.Goals as goal

pub returns-in-Some : goal.returns-in-Some
returns-in-Some c = (
  λ holds. (c.in-Some.row.now, c.in-Some.ensures.some, c.same.ensures.0 holds),
  λ had. c.same.ensures.1 (ap (λ (r : GenerationRow). r.pw_nonce)
      (one_generation (state_rows c.args.state.now) c.args.number c.args.generation c.in-Some.row.now had.0 c.in-Some.ensures.some had.1) ∙ had.2),
)

use Rattle.std.proofs.Common.{inr}
use Rattle.sn_account.specs.States.{state_rows}
use Rattle.sn_account.proofs.PresentLemmas.{tells}
use Rattle.sn_account.proofs.accounts.parameters.Goals as goal

pub returns : goal.returns
returns c =
    inr (tells (state_rows c.args.state.now) c.args.identifier.now c.in-Some.number c.in_ok-params.params c.in-Some.ensures.some c.in_ok-params.ensures)

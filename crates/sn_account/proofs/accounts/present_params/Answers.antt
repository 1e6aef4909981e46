use Rattle.sn_account.specs.States.{state_rows}
use Rattle.sn_account.proofs.PresentLemmas.{present, stands_present}
use Rattle.sn_account.proofs.accounts.present_params.Goals as goal

pub unreachable-requires : goal.unreachable-requires
unreachable-requires c =
    let there = stands_present (state_rows c.args.state.now) c.args.number c.account_of-account.result.now c.requires.sound
    c.account_of-account.ensures
    in
    c.in-None.ensures.none there.0 there.1

pub returns : goal.returns
returns c =
    present (state_rows c.args.state.now) c.args.number c.account_of-account.result.now c.in-Some.generation.now c.params_of.result
    c.account_of-account.ensures c.in-Some.ensures.some c.params_of.ensures

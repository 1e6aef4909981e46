use Rattle.sn_account.specs.States.{state_rows}
use Rattle.sn_account.proofs.BehindLemmas.{unmarked_rows}
use Rattle.sn_account.proofs.SoundKinds.{accounts_numbered, accounts_ok, never, not_true}
use Rattle.sn_account.proofs.soundness.are_accounts_sound.Goals as goal

pub returns-then-not-branch : goal.returns-then-not-branch
returns-then-not-branch c =
    let fails = not_true c.in_ok-all_pass.field-0 c.in_ok-all_pass.ensures c.if-not-branch.true in
    never (λ sound. fails (accounts_numbered c.args.state.now.rows (state_rows c.args.state.now) (unmarked_rows c.args.state.now c.requires) c.args.count sound))

pub returns-then-not-are_there : goal.returns-then-not-are_there
returns-then-not-are_there c =
    let fails = not_true c.are_there.result c.are_there.ensures c.if-not-are_there.true in
    never (λ sound. fails sound.accounts)

pub returns : goal.returns
returns c =
    accounts_ok c.args.state.now.rows (state_rows c.args.state.now) (unmarked_rows c.args.state.now c.requires) c.args.count c.identifiers_differ.result
    (c.in_ok-all_pass.ensures.0 c.if-not-branch.false) (c.are_there.ensures.0 c.if-not-are_there.false) c.identifiers_differ.ensures

pub identifiers_differ-requires-clause-there : goal.identifiers_differ-requires-clause-there
identifiers_differ-requires-clause-there c = c.are_there.ensures.0 c.if-not-are_there.false

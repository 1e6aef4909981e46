use Rattle.sn_account.specs.States.{state_rows}
use Rattle.sn_account.proofs.BehindLemmas.{unmarked_rows}
use Rattle.sn_account.proofs.SoundKinds.{items_ok, items_pass, never, not_true}
use Rattle.sn_account.proofs.soundness.are_items_sound.Goals as goal

pub returns-then-not-branch : goal.returns-then-not-branch
returns-then-not-branch c =
    let fails = not_true c.in_ok-all_pass.field-0 c.in_ok-all_pass.ensures c.if-not-branch.true in
    never (λ sound. fails (items_pass c.args.state.now.rows (state_rows c.args.state.now) (unmarked_rows c.args.state.now c.requires) c.args.last sound))

pub returns : goal.returns
returns c =
    items_ok c.args.state.now.rows (state_rows c.args.state.now) (unmarked_rows c.args.state.now c.requires) c.args.last c.stamps_differ.result
    (c.in_ok-all_pass.ensures.0 c.if-not-branch.false) c.stamps_differ.ensures

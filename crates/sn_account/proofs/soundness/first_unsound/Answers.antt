use Rattle.std.proofs.Common.{◌≤◌, arith}
use Rattle.sn_account.specs.Sound.{most_accounts}
use Rattle.sn_account.specs.States.{state_rows}
use Rattle.sn_account.proofs.SoundKinds.{all_sound, has_accounts, no_accounts, no_generations, no_items}
use Rattle.sn_account.proofs.soundness.first_unsound.Goals as goal

pub returns-then-not-branch : goal.returns-then-not-branch
returns-then-not-branch c =
    let bound : c.in-Some.store.now.accounts ≤ most_accounts = omega arith in (
      (c.in-Some.store.now, c.in-Some.ensures.some, bound),
      no_accounts (state_rows c.args.state.now) c.in-Some.store.now c.in_ok-are_accounts_sound.field-0 c.in-Some.ensures.some
          c.in_ok-are_accounts_sound.ensures c.if-not-branch.true,
    )

pub returns-then-not-branch-2 : goal.returns-then-not-branch-2
returns-then-not-branch-2 c =
    let bound : c.in-Some.store.now.accounts ≤ most_accounts = omega arith in (
      (c.in-Some.store.now, c.in-Some.ensures.some, bound),
      has_accounts (state_rows c.args.state.now) c.in-Some.store.now c.in-Some.ensures.some (c.in_ok-are_accounts_sound.ensures.0 c.if-not-branch.false),
      no_generations (state_rows c.args.state.now) c.in_ok-are_generations_sound.field-0 c.in_ok-are_generations_sound.ensures c.if-not-branch-2.true,
    )

pub returns-then-not-branch-3 : goal.returns-then-not-branch-3
returns-then-not-branch-3 c =
    let bound : c.in-Some.store.now.accounts ≤ most_accounts = omega arith in (
      (c.in-Some.store.now, c.in-Some.ensures.some, bound),
      has_accounts (state_rows c.args.state.now) c.in-Some.store.now c.in-Some.ensures.some (c.in_ok-are_accounts_sound.ensures.0 c.if-not-branch.false),
      c.in_ok-are_generations_sound.ensures.0 c.if-not-branch-2.false,
      no_items (state_rows c.args.state.now) c.in-Some.store.now c.in_ok-are_items_sound.field-0 c.in-Some.ensures.some
          c.in_ok-are_items_sound.ensures c.if-not-branch-3.true,
    )

pub returns : goal.returns
returns c =
    let bound : c.in-Some.store.now.accounts ≤ most_accounts = omega arith in
    all_sound (state_rows c.args.state.now) c.in-Some.store.now c.requires.kinds c.in-Some.ensures.some bound
    (c.in_ok-are_accounts_sound.ensures.0 c.if-not-branch.false) (c.in_ok-are_generations_sound.ensures.0 c.if-not-branch-2.false)
    (c.in_ok-are_items_sound.ensures.0 c.if-not-branch-3.false)

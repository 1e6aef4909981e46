use Rattle.std.proofs.Common.{◌+◌, ◌<◌, ◌≤◌, refl, arith}
use Rattle.sn_account.specs.States.{state_rows}
use Rattle.sn_account.proofs.BehindLemmas.{unmarked_rows}
use Rattle.sn_account.proofs.SoundKinds.{generations_of, generations_reached, generations_sound, have_upto, never, none_yet, not_true, one_more}
use Rattle.sn_account.proofs.soundness.are_generations_sound.Goals as goal

pub returns-then-not-branch : goal.returns-then-not-branch
returns-then-not-branch c =
    let fails = not_true c.in_ok-all_pass.field-0 c.in_ok-all_pass.ensures c.if-not-branch.true in
    never (λ sound. fails (generations_reached c.args.state.now.rows (state_rows c.args.state.now) (unmarked_rows c.args.state.now c.requires.unmarked) sound))

pub accounts-init : goal.accounts-init
accounts-init c = none_yet (state_rows c.args.state.now)

pub unreachable-requires : goal.unreachable-requires
unreachable-requires c =
    let none = rw c.in_default.is at c.account.ensures.none in
    let low : 1 ≤ c.accounts.earlier + 1 = omega arith in
    let upto : c.accounts.earlier + 1 ≤ c.args.count = omega arith in
    let there = c.requires.accounts.accounts (c.accounts.earlier + 1) low upto in
    none there.0 there.1

pub returns-then-not-branch-2 : goal.returns-then-not-branch-2
returns-then-not-branch-2 c =
    let fails = not_true c.in_ok-has_generations.field-0 c.in_ok-has_generations.ensures c.if-not-branch-2.true in
    never (λ sound. fails (generations_of c.args.state.now.rows (state_rows c.args.state.now) (unmarked_rows c.args.state.now c.requires.unmarked) sound
    (c.accounts.earlier + 1) c.in-Some.account.now c.in-Some.ensures.some))

pub accounts-preserved : goal.accounts-preserved
accounts-preserved c =
    one_more (state_rows c.args.state.now) (c.accounts.earlier + 1) c.in-Some.account.now c.accounts.invariant c.in-Some.ensures.some
    (c.in_ok-has_generations.ensures.0 c.if-not-branch-2.false)

pub returns : goal.returns
returns c =
    let past : c.args.count < c.accounts.earlier + 1 = omega arith in (
      λ _. generations_sound c.args.state.now.rows (state_rows c.args.state.now) (unmarked_rows c.args.state.now c.requires.unmarked) c.args.count
          c.requires.accounts (c.in_ok-all_pass.ensures.0 c.if-not-branch.false)
          (have_upto (state_rows c.args.state.now) c.args.count (c.accounts.earlier + 1) past c.accounts.invariant),
      λ _. refl,
    )

use Rattle.std.proofs.Common.{◌+◌, ◌<◌, ◌≤◌, refl, arith}
use Rattle.std.specs.BTreeMap.{get_by}
use Rattle.std.specs.Cmp.Lexicographic.{slice_cmp}
use Rattle.std.specs.Ordering.{nat_cmp}
use Rattle.sn_account.specs.States.{state_rows}
use Rattle.sn_account.specs.Walks.{HasText}
use Rattle.sn_account.proofs.NonceWalk.{identifiers_again, identifiers_end, identifiers_first, identifiers_more, is_met, no_texts}
use Rattle.sn_account.proofs.SoundKinds.{never}
use Rattle.sn_account.proofs.apart.identifiers_differ.Goals as goal

pub accounts-init : goal.accounts-init
accounts-init c = identifiers_first (state_rows c.args.state.now) (HasText c.new-seen.result) (no_texts c.new-seen.result c.new-seen.ensures.empty)

pub returns-then-not-branch : goal.returns-then-not-branch
returns-then-not-branch c =
    let met : HasText c.accounts.seen c.as_str.result.now =
    is_met (get_by (λ k. slice_cmp nat_cmp c.as_str.result.now k.now) c.accounts.seen) c.in_ok-is_first.field-0 c.in_ok-is_first.ensures.first
    c.if-not-branch.true in
    let low : 1 ≤ c.accounts.earlier + 1 = omega arith in
    let upto : c.accounts.earlier + 1 ≤ c.args.count = omega arith in
    never (identifiers_again (state_rows c.args.state.now) (HasText c.accounts.seen) (c.accounts.earlier + 1) c.args.count c.in-Some.account.now
    c.as_str.result.now low upto c.in-Some.ensures.some c.as_str.ensures c.accounts.invariant met)

pub accounts-preserved : goal.accounts-preserved
accounts-preserved c =
    let low : 1 ≤ c.accounts.earlier + 1 = omega arith in
    identifiers_more (state_rows c.args.state.now) (HasText c.accounts.seen) (HasText c.is_first.new.seen) (c.accounts.earlier + 1) c.in-Some.account.now
    c.as_str.result.now low c.in-Some.ensures.some c.as_str.ensures c.accounts.invariant
    (c.in_ok-is_first.ensures.first.0 c.if-not-branch.false) c.in_ok-is_first.ensures.seen

pub returns : goal.returns
returns c =
    let past : c.args.count < c.accounts.earlier + 1 = omega arith in (
      λ _. identifiers_end (state_rows c.args.state.now) (HasText c.accounts.seen) c.args.count (c.accounts.earlier + 1) past c.accounts.invariant,
      λ _. refl,
    )

pub unreachable-requires : goal.unreachable-requires
unreachable-requires c =
    let none = rw c.in_default.is at c.account.ensures.none in
    let low : 1 ≤ c.accounts.earlier + 1 = omega arith in
    let upto : c.accounts.earlier + 1 ≤ c.args.count = omega arith in
    let there = c.requires.there (c.accounts.earlier + 1) low upto in
    none there.0 there.1

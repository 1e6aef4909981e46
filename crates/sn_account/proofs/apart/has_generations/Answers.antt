use Rattle.std.proofs.Common.{◌+◌, ◌<◌, ◌≤◌, refl, arith}
use Rattle.std.specs.BTreeMap.{get_by}
use Rattle.std.specs.Cmp.Lexicographic.{slice_cmp}
use Rattle.std.specs.Ordering.{nat_cmp}
use Rattle.sn_account.specs.States.{state_rows}
use Rattle.sn_account.specs.Walks.{HasText}
use Rattle.sn_account.proofs.NonceWalk.{is_met, no_texts, nonces_again, nonces_end, nonces_first, nonces_more}
use Rattle.sn_account.proofs.SoundKinds.{never}
use Rattle.sn_account.proofs.apart.has_generations.Goals as goal

pub generations-init : goal.generations-init
generations-init c =
    nonces_first (state_rows c.args.state.now) c.args.number (HasText c.new-seen.result) (no_texts c.new-seen.result c.new-seen.ensures.empty)

pub returns-in_default : goal.returns-in_default
returns-in_default c =
    let none = rw c.in_default.is at c.generation.ensures.none in
    let low : 1 ≤ c.generations.earlier + 1 = omega arith in
    let upto : c.generations.earlier + 1 ≤ c.args.count = omega arith in
    never (λ whole. (let at = whole.there (c.generations.earlier + 1) low upto in none at.0 at.1))

pub returns-then-not-branch : goal.returns-then-not-branch
returns-then-not-branch c =
    let met : HasText c.generations.seen c.as_str.result.now =
    is_met (get_by (λ k. slice_cmp nat_cmp c.as_str.result.now k.now) c.generations.seen) c.in_ok-is_first.field-0 c.in_ok-is_first.ensures.first
    c.if-not-branch.true in
    let low : 1 ≤ c.generations.earlier + 1 = omega arith in
    let upto : c.generations.earlier + 1 ≤ c.args.count = omega arith in
    never (nonces_again (state_rows c.args.state.now) c.args.number (HasText c.generations.seen) (c.generations.earlier + 1) c.args.count
    c.in-Some.row.now c.as_str.result.now low upto c.in-Some.ensures.some c.as_str.ensures c.generations.invariant met)

pub generations-preserved : goal.generations-preserved
generations-preserved c =
    let low : 1 ≤ c.generations.earlier + 1 = omega arith in
    nonces_more (state_rows c.args.state.now) c.args.number (HasText c.generations.seen) (HasText c.is_first.new.seen) (c.generations.earlier + 1)
    c.in-Some.row.now c.as_str.result.now low c.in-Some.ensures.some c.as_str.ensures c.generations.invariant
    (c.in_ok-is_first.ensures.first.0 c.if-not-branch.false) c.in_ok-is_first.ensures.seen

pub returns : goal.returns
returns c =
    let past : c.args.count < c.generations.earlier + 1 = omega arith in (
      λ _. nonces_end (state_rows c.args.state.now) c.args.number (HasText c.generations.seen) c.args.count (c.generations.earlier + 1) past
          c.generations.invariant,
      λ _. refl,
    )

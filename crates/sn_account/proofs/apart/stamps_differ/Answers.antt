use Rattle.std.proofs.Common.{◌≡◌, Some, None, refl, ap}
use Rattle.sn_row_map.specs.Steps.{lent}
use Rattle.sn_account.specs.States.{state_rows}
use Rattle.sn_account.specs.Walks.{HasStamp}
use Rattle.sn_account.proofs.BehindLemmas.{unmarked_rows}
use Rattle.sn_account.proofs.StampWalk.{no_stamps, stamps_end, stamps_first, stamps_step, stamps_stop}
use Rattle.sn_account.proofs.WalkLemmas.{walk_smaller}
use Rattle.sn_account.proofs.apart.stamps_differ.Goals as goal

pub rows-init : goal.rows-init
rows-init c =
    stamps_first c.args.state.now.rows (HasStamp c.new-seen.result) (lent c.first-found.result) c.first-found.ensures.walk
    (no_stamps c.new-seen.result c.new-seen.ensures.empty)

pub returns-then-not-branch : goal.returns-then-not-branch
returns-then-not-branch c =
    let found : lent c.rows.found ≡ Some (c.in-Some.key.now, c.in-Some.value.now) = ap lent c.in-Some.is in
    let not = stamps_stop c.args.state.now.rows (state_rows c.args.state.now) c.rows.seen c.meet.new.seen c.in-Some.key.now c.in-Some.value.now
    c.in_ok-meet.field-0 (lent c.rows.found) c.rows.invariant c.first-found.ensures.rows (unmarked_rows c.args.state.now c.requires) found
    c.in_ok-meet.ensures c.if-not-branch.true in
    (λ holds. cc, λ differ. absurd (not differ))

pub rows-preserved : goal.rows-preserved
rows-preserved c =
    let found : lent c.rows.found ≡ Some (c.in-Some.key.now, c.in-Some.value.now) = ap lent c.in-Some.is in
    stamps_step c.args.state.now.rows c.rows.seen c.meet.new.seen c.in-Some.key.now c.in-Some.value.now c.in_ok-meet.field-0 (lent c.rows.found)
    (lent c.next_after-found.result) c.rows.invariant c.first-found.ensures.rows found c.in_ok-meet.ensures c.if-not-branch.false
    c.next_after-found.ensures.walk

pub rows-smaller : goal.rows-smaller
rows-smaller c =
    let found : lent c.rows.found ≡ Some (c.in-Some.key.now, c.in-Some.value.now) = ap lent c.in-Some.is in
    walk_smaller c.args.state.now.rows c.in-Some.key.now c.in-Some.value.now (lent c.rows.found) (lent c.next_after-found.result) found
    c.next_after-found.ensures.walk

pub returns : goal.returns
returns c =
    let none : lent c.rows.found ≡ None = ap lent c.in_default.is in (
      λ _. stamps_end c.args.state.now.rows (state_rows c.args.state.now) (HasStamp c.rows.seen) (lent c.rows.found) c.rows.invariant
          c.first-found.ensures.rows (unmarked_rows c.args.state.now c.requires) none,
      λ _. refl,
    )

use Rattle.std.proofs.Common.{false, ap, subst, sym}
use Rattle.sn_account.specs.Pages.{AreAbove}
use Rattle.sn_account.specs.States.{state_rows}
use Rattle.sn_account.proofs.FoundLemmas.{back_no, back_one, found_of, greatest_last, greatest_none, walk_above}
use Rattle.sn_account.proofs.pages.greatest.Goals as goal

pub places-init : goal.places-init
places-init c =
    walk_above c.args.state.now c.requires.unmarked c.requires.sound c.args.number 0 false c.bounds_above.result.0 c.bounds_above.result.1
    c.range-places.result (c.range-places.ensures.between tt) c.range-places.ensures.ordered c.bounds_above.ensures.whole

pub places-preserved : goal.places-preserved
places-preserved c =
    let none = c.in_default-candidate_at.ensures.none in
    subst (AreAbove (state_rows c.args.state.now) c.args.number 0 false)
    (back_no (state_rows c.args.state.now) c.args.number 0 false c.places.places c.next_back.new.self c.in-Some.place.now c.in-Some.ensures.steps
    (λ i has at. none i has at.0 at.1))
    c.places.invariant

pub returns-in-Some-candidate_at-clause-greatest : goal.returns-in-Some-candidate_at-clause-greatest
returns-in-Some-candidate_at-clause-greatest c =
    let there = c.in-Some-candidate_at.ensures.some in
    greatest_last (state_rows c.args.state.now) c.args.number c.requires.sound
    (found_of (state_rows c.args.state.now) c.args.number 0 false c.places.places)
    (found_of (state_rows c.args.state.now) c.args.number 0 false c.next_back.new.self) c.in-Some.place.now.uuid c.in-Some-candidate_at.row.now
    c.updated.result c.places.invariant
    (back_one (state_rows c.args.state.now) c.args.number 0 false c.places.places c.next_back.new.self c.in-Some.place.now c.in-Some-candidate_at.row.now
    c.in-Some.ensures.steps there.0 (there.1, there.2)) (sym c.updated.ensures)

pub returns-clause-greatest : goal.returns-clause-greatest
returns-clause-greatest c =
    greatest_none (state_rows c.args.state.now) c.args.number c.requires.sound
    (found_of (state_rows c.args.state.now) c.args.number 0 false c.places.places) c.places.invariant
    (ap (found_of (state_rows c.args.state.now) c.args.number 0 false) c.in_default.ensures.steps.0)

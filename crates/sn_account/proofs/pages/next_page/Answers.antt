use Rattle.std.proofs.Common.{◌≡◌, ◌∙◌, ◌∷◌, ◌+◌, ℕ, List, ap, subst, sym}
use Rattle.sn_account.specs.Pages.{Found, IsGreatest}
use Rattle.sn_account.specs.States.{state_rows}
use Rattle.sn_account.proofs.FoundLemmas.{found_no, found_of, found_one, walk_above}
use Rattle.sn_account.proofs.IncomingLemmas.{not_holds}
use Rattle.sn_account.proofs.PageLemmas.{InPage, in_more, in_none, in_room, page_cut, page_whole}
use Rattle.sn_account.proofs.pages.next_page.Goals as goal

pub places-init : goal.places-init
places-init c =
    in_none (state_rows c.args.state.now) c.args.number c.args.above c.args.first c.args.limit
    (found_of (state_rows c.args.state.now) c.args.number c.args.above c.args.first c.into_iter-place-iterator.result) c.new-items.result
    (walk_above c.args.state.now c.requires.unmarked c.requires.sound c.args.number c.args.above c.args.first c.bounds_above.result.0
    c.bounds_above.result.1 c.into_iter-place-iterator.result (c.into_iter-place-iterator.ensures.into_iter_gives ∙ c.range-place-items.ensures.between tt)
    c.range-place-items.ensures.ordered c.bounds_above.ensures.whole) c.new-items.ensures

pub places-preserved-in_default : goal.places-preserved-in_default
places-preserved-in_default c =
    let none = rw c.in_default.is at c.candidate_at.ensures.none in
    let found = found_of (state_rows c.args.state.now) c.args.number c.args.above c.args.first in
    subst
    (λ (fs : List Found). InPage (state_rows c.args.state.now) c.args.number c.args.above c.args.first c.args.limit fs c.places.items c.places.last c.places.bytes)
    (ap found c.in-Some.ensures.steps
    ∙ found_no (state_rows c.args.state.now) c.args.number c.args.above c.args.first c.in-Some.place.now c.next.new.self (λ i has at. none i has at.0 at.1))
    c.places.invariant

pub places-preserved : goal.places-preserved
places-preserved c =
    let row = c.in-Some-candidate_at.row.now in
    let there = c.in-Some-candidate_at.ensures.some in
    let found = found_of (state_rows c.args.state.now) c.args.number c.args.above c.args.first in
    let next : found c.places.place-iterator ≡ (c.in-Some.place.now.uuid, row) ∷ found c.next.new.self =
    ap found c.in-Some.ensures.steps
    ∙ found_one (state_rows c.args.state.now) c.args.number c.args.above c.args.first c.in-Some.place.now c.next.new.self row there.0 (there.1, there.2) in
    let p = subst
    (λ (fs : List Found). InPage (state_rows c.args.state.now) c.args.number c.args.above c.args.first c.args.limit fs c.places.items c.places.last c.places.bytes)
    next c.places.invariant in
    let room = in_room (state_rows c.args.state.now) c.args.number c.args.above c.args.first c.args.limit
    ((c.in-Some.place.now.uuid, row) ∷ found c.next.new.self) c.places.items c.places.last c.places.bytes c.len.result c.weight.result p c.len.ensures
    c.weight.ensures.bound (not_holds c.is_full.result c.is_full.ensures c.if-is_full.false) in
    in_more (state_rows c.args.state.now) c.args.number c.args.above c.args.first c.args.limit (found c.next.new.self) (c.in-Some.place.now.uuid, row)
    c.places.items c.push.new.self c.in_ok-given.field-0 c.places.last c.places.bytes (c.places.bytes + c.weight.result) c.in-Some.place.now.stamp p there.1.1
    c.in_ok-given.ensures c.in_ok-push.ensures.ok (ap (λ (n : ℕ). c.places.bytes + n) c.weight.ensures.is) room.0 room.1

pub returns-then-is_full : goal.returns-then-is_full
returns-then-is_full c =
    let row = c.in-Some-candidate_at.row.now in
    let there = c.in-Some-candidate_at.ensures.some in
    let found = found_of (state_rows c.args.state.now) c.args.number c.args.above c.args.first in
    let next : found c.places.place-iterator ≡ (c.in-Some.place.now.uuid, row) ∷ found c.next.new.self =
    ap found c.in-Some.ensures.steps
    ∙ found_one (state_rows c.args.state.now) c.args.number c.args.above c.args.first c.in-Some.place.now c.next.new.self row there.0 (there.1, there.2) in
    page_cut (state_rows c.args.state.now) c.args.number c.args.above c.args.first c.args.limit c.page_with.result (found c.places.place-iterator)
    (c.in-Some.place.now.uuid, row) (found c.next.new.self) c.places.items c.places.last c.places.bytes c.len.result c.weight.result
    c.page_with.ensures.items c.page_with.ensures.last c.page_with.ensures.more
    (subst (IsGreatest (state_rows c.args.state.now) c.args.number) (sym c.page_with.ensures.greatest) c.greatest-greatest.ensures.greatest) next c.len.ensures
    c.weight.ensures.is (c.is_full.ensures.0 c.if-is_full.true) c.places.invariant

pub returns : goal.returns
returns c =
    page_whole (state_rows c.args.state.now) c.args.number c.args.above c.args.first c.args.limit c.page_with-2.result
    (found_of (state_rows c.args.state.now) c.args.number c.args.above c.args.first c.places.place-iterator) c.places.items c.places.last c.places.bytes
    c.page_with-2.ensures.items (ap (found_of (state_rows c.args.state.now) c.args.number c.args.above c.args.first) c.in-None.ensures.steps.0)
    c.page_with-2.ensures.more
    (subst (IsGreatest (state_rows c.args.state.now) c.args.number) (sym c.page_with-2.ensures.greatest) c.greatest-greatest.ensures.greatest) c.places.invariant

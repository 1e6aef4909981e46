use Rattle.std.proofs.Common.{◌≡◌, Some, None, ap, refl}
use Rattle.std.proofs.lemmas.Bool.{iff_false}
use Rattle.sn_row_map.specs.Steps.{lent}
use Rattle.sn_local.proofs.Facts.{walk_shorter, never}
use Rattle.sn_soundness.proofs.SoundnessLemmas.{none_seen, walk_fails, walk_over, walked_first, walked_more}
use Rattle.sn_soundness.proofs.soundness.are_locals_sound.Goals as goal

pub items-init : goal.items-init
items-init c =
    walked_first c.args.rows.now c.new-seen.result c.args.owner.now.next (lent c.first-found.result)
    (none_seen c.new-seen.result c.new-seen.ensures.empty) c.first-found.ensures.first c.first-found.ensures.walk

pub returns-then-not-branch : goal.returns-then-not-branch
returns-then-not-branch c =
    let found : lent c.items.found ≡ Some (c.in-Some.key.now, c.in-Some.value.now) = ap lent c.in-Some.is in
    never (walk_fails c.args.rows.now c.args.owner.now c.items.seen (lent c.items.found) c.in-Some.key.now c.in-Some.value.now c.requires.owned
    c.items.invariant found (iff_false c.in_ok-is_sound_row.ensures.sound c.if-not-branch.true))

pub items-preserved : goal.items-preserved
items-preserved c =
    let found : lent c.items.found ≡ Some (c.in-Some.key.now, c.in-Some.value.now) = ap lent c.in-Some.is in
    walked_more c.args.rows.now c.items.seen c.is_sound_row.new.seen c.args.owner.now.next (lent c.items.found) (lent c.next_after-found.result)
    c.in-Some.key.now c.in-Some.value.now c.items.invariant found (c.in_ok-is_sound_row.ensures.sound.0 c.if-not-branch.false)
    (c.in_ok-is_sound_row.ensures.sees c.if-not-branch.false) c.next_after-found.ensures.next c.next_after-found.ensures.walk

pub items-smaller : goal.items-smaller
items-smaller c =
    let found : lent c.items.found ≡ Some (c.in-Some.key.now, c.in-Some.value.now) = ap lent c.in-Some.is in
    walk_shorter c.args.rows.now c.in-Some.key.now c.in-Some.value.now (lent c.items.found) (lent c.next_after-found.result) found
    c.next_after-found.ensures.walk

pub returns : goal.returns
returns c =
    let none : lent c.items.found ≡ None = ap lent c.in_default.is in (
      λ _. walk_over c.args.rows.now c.args.owner.now c.items.seen (lent c.items.found) c.requires.owned c.items.invariant c.first-found.ensures.rows none,
      λ _. refl,
    )

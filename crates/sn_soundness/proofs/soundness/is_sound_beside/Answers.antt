use Rattle.std.proofs.Common.{◌<◌, arith}
use Rattle.std.proofs.lemmas.Bool.{iff_false}
use Rattle.sn_soundness.proofs.SoundnessLemmas.{beside_of}
use Rattle.sn_local.proofs.Facts.{never, tests_same}
use Rattle.sn_soundness.proofs.soundness.is_sound_beside.Goals as goal

pub returns-then-not-branch-clause-sound : goal.returns-then-not-branch-clause-sound
returns-then-not-branch-clause-sound c = never (λ sound. iff_false c.in_ok-is_sound_item.ensures c.if-not-branch.true sound.item)

pub returns-clause-sound : goal.returns-clause-sound
returns-clause-sound c =
    let below : c.args.number < c.args.next = omega arith in
    tests_same c.is_apart.result
    (beside_of c.args.seen.now c.args.next c.args.number c.args.item.now below (c.in_ok-is_sound_item.ensures.0 c.if-not-branch.false))
    (λ sound. sound.apart) c.is_apart.ensures.apart

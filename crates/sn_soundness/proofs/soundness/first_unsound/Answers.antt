use Rattle.std.proofs.lemmas.Bool.{iff_false}
use Rattle.sn_row_map.specs.RowMaps.{row_in}
use Rattle.sn_soundness.proofs.SoundnessLemmas.{sound_whole}
use Rattle.sn_soundness.proofs.soundness.first_unsound.Goals as goal

pub are_sets_sound-requires : goal.are_sets_sound-requires
are_sets_sound-requires c = record { kinds = c.requires.device.kinds; owned = (c.in-Some.owner.now, c.in-Some.ensures.some) }

pub returns-then-not-are_sets_sound : goal.returns-then-not-are_sets_sound
returns-then-not-are_sets_sound c = (
  λ at v is. (c.in-Some.owner.now, c.in-Some.ensures.some),
  iff_false c.are_sets_sound.ensures c.if-not-are_sets_sound.true,
)

pub returns-then-not-branch : goal.returns-then-not-branch
returns-then-not-branch c = (
  λ at v is. (c.in-Some.owner.now, c.in-Some.ensures.some),
  c.are_sets_sound.ensures.0 c.if-not-are_sets_sound.false,
  iff_false c.in_ok-are_locals_sound.ensures c.if-not-branch.true,
)

pub returns : goal.returns
returns c =
    sound_whole (row_in c.args.rows.now) c.in-Some.owner.now c.requires.device c.in-Some.ensures.some
    (c.are_sets_sound.ensures.0 c.if-not-are_sets_sound.false) (c.in_ok-are_locals_sound.ensures.0 c.if-not-branch.false)

use Rattle.std.proofs.lemmas.Bool.{iff_false}
use Rattle.sn_device.specs.States.{columns}
use Rattle.sn_soundness.proofs.SoundnessLemmas.{item_of, parts_of, strings_of}
use Rattle.sn_local.proofs.Facts.{never, tests_same}
use Rattle.sn_soundness.proofs.soundness.is_sound_item.Goals as goal

pub returns-then-not-has_sound_parts : goal.returns-then-not-has_sound_parts
returns-then-not-has_sound_parts c =
    never (λ sound. iff_false c.has_sound_parts.ensures c.if-not-has_sound_parts.true (parts_of (columns c.args.item.now) sound))

pub returns : goal.returns
returns c =
    tests_same c.has_own_strings.result (item_of (columns c.args.item.now) (c.has_sound_parts.ensures.0 c.if-not-has_sound_parts.false))
    (strings_of (columns c.args.item.now)) c.has_own_strings.ensures

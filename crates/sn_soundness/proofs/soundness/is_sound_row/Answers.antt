use Rattle.std.proofs.Common.{IsTrue}
use Rattle.std.proofs.lemmas.Result.{IfOk-weaker}
use Rattle.sn_local.specs.Found.{IsItemRow}
use Rattle.sn_soundness.specs.Unsound.{SeesMore, SeesRow}
use Rattle.sn_soundness.proofs.SoundnessLemmas.{row_of, sees_row}
use Rattle.sn_local.proofs.Facts.{tests_same}
use Rattle.sn_soundness.proofs.soundness.is_sound_row.Goals as goal

pub returns-in-Local-Local-clause-sound : goal.returns-in-Local-Local-clause-sound
returns-in-Local-Local-clause-sound c =
    let is : IsItemRow c.args.key.now c.args.value.now c.in-Local-Local.number c.in-Local-Local.item = (c.in-Local-Local.is-0, c.in-Local-Local.is-1) in
    tests_same c.is_sound_beside.result
    (row_of c.args.seen.now c.args.next c.in-Local-Local.number c.in-Local-Local.item c.args.key.now c.args.value.now is)
    (λ sound. sound c.in-Local-Local.number c.in-Local-Local.item is) (rw c.get.ensures at c.is_sound_beside.ensures.sound)

pub returns-in-Local-Local-clause-sees : goal.returns-in-Local-Local-clause-sees
returns-in-Local-Local-clause-sees c =
    let is : IsItemRow c.args.key.now c.args.value.now c.in-Local-Local.number c.in-Local-Local.item = (c.in-Local-Local.is-0, c.in-Local-Local.is-1) in
    IfOk-weaker c.is_sound_beside.result
    (λ b. IsTrue b → SeesMore c.args.seen.now c.is_sound_beside.new.seen c.in-Local-Local.item.uuid c.in-Local-Local.number)
    (λ b. IsTrue b → SeesRow c.args.seen.now c.is_sound_beside.new.seen c.args.key.now c.args.value.now)
    (λ b sees holds. sees_row c.args.seen.now c.is_sound_beside.new.seen c.in-Local-Local.number c.in-Local-Local.item c.args.key.now c.args.value.now is
    (sees holds))
    (rw c.get.ensures at c.is_sound_beside.ensures.sees)

use Rattle.sn_row_map.specs.RowMaps.{row_in}
use Rattle.sn_rows.specs.declared.key.Slot.TheVariants.{Present, Asked}
use Rattle.sn_soundness.proofs.SoundnessLemmas.{asked_alone, none_asked, set_lacks, set_there}
use Rattle.sn_soundness.proofs.soundness.are_sets_sound.Goals as goal

pub returns-then-is_none-2 : goal.returns-then-is_none-2
returns-then-is_none-2 c = (
  λ _. none_asked (row_in c.args.rows.now)
      (set_there (row_in c.args.rows.now) Present c.set_in.result c.is_none.result c.set_in.ensures.some c.is_none.ensures c.if-is_none.false)
      (set_lacks (row_in c.args.rows.now) Asked c.set_in-2.result c.is_none-2.result c.set_in-2.ensures.none c.is_none-2.ensures c.if-is_none-2.true),
  λ _. c.if-is_none-2.true,
)

pub returns-else-is_none-2 : goal.returns-else-is_none-2
returns-else-is_none-2 c =
    asked_alone (row_in c.args.rows.now) c.set_in-else-is_none-2.result c.is_none-else-is_none-2.result
    (set_there (row_in c.args.rows.now) Present c.set_in.result c.is_none.result c.set_in.ensures.some c.is_none.ensures c.if-is_none.false)
    (set_there (row_in c.args.rows.now) Asked c.set_in-2.result c.is_none-2.result c.set_in-2.ensures.some c.is_none-2.ensures c.if-is_none-2.false)
    c.set_in-else-is_none-2.ensures.some c.set_in-else-is_none-2.ensures.none c.is_none-else-is_none-2.ensures

-- The items so far passed, and just these are seen.
use Rattle.std.proofs.Common.{length}
use Rattle.sn_row_map.specs.Steps.{lent}
use Rattle.sn_local.proofs.Facts.{ahead}
use Rattle.sn_soundness.proofs.SoundnessLemmas.{Walked}
use Rattle.sn_soundness.proofs.soundness.are_locals_sound.Given as goal

abbrev pub invariant-items : goal.invariant-items
invariant-items l = Walked l.rows l.seen l.owner.next (lent l.found)

abbrev pub decreases-items : goal.decreases-items
decreases-items l = length (ahead l.rows (lent l.found))

use Rattle.std.proofs.Common.{refl, arith}
use Rattle.sn_report.proofs.WritingLemmas.{held_step, held_end}
use Rattle.sn_report.proofs.showing.held_text.Goals as goal

pub held-preserved : goal.held-preserved
held-preserved c =
    held_step _ _ _ c.args.held.now c.held.number-index _ (omega arith) refl c.in_ok-write.ensures.bytes c.held.invariant

pub returns : goal.returns
returns c = held_end _ _ c.args.held.now c.held.number-index (omega arith) c.held.invariant

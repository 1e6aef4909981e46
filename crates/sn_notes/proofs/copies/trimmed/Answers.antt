use Rattle.std.proofs.Common.{arith, ◌∙◌, ◌≡◌, ◌<◌, ◌-◌, false, get_or, sym}
use Rattle.sn_notes.specs.Copies.{is_space}
use Rattle.sn_notes.proofs.CopyLemmas.{trimmed_here, trimmed_range}
use Rattle.sn_notes.proofs.copies.trimmed.Goals.{then-loop-end-test+else-is_space, else-loop-end-test}
use Rattle.sn_notes.proofs.copies.trimmed.Goals as goal

pub returns : goal.returns
returns c =
    let stops : 0 < c.loop-end.end → is_space (get_or c.as_bytes-bytes.result.now (c.loop-end.end - 1) 0) ≡ false =
    elim c.loop-end-test.branch [
      | then-loop-end-test+else-is_space w ↦ λ positive. sym w.is_space.ensures ∙ w.if-is_space.false
      | else-loop-end-test w ↦ λ positive. absurd (omega (arith, w.loop-end-test.false))
    ] in
    let here = trimmed_here _ _ c.loop-end.invariant stops in
    trimmed_range _ _ _ _ c.as_bytes-bytes.ensures.value c.range.ensures.value here

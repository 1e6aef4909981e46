use Rattle.sn_notes.proofs.CopyLemmas.{IsTrimmedTo}
use Rattle.sn_notes.proofs.copies.trimmed.Given as goal

abbrev pub invariant-loop-end : goal.invariant-loop-end
invariant-loop-end l = IsTrimmedTo l.bytes l.end

abbrev pub decreases-loop-end : goal.decreases-loop-end
decreases-loop-end l = l.end

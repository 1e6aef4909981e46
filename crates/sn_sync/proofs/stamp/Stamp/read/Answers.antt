use Rattle.std.proofs.Common.{IfNone, ℕ, subst}
use Rattle.sn_sync.specs.Stamps.{IsStampText}
use Rattle.sn_sync.proofs.Cases.{IfErr-ok_or}
use Rattle.sn_sync.proofs.stamp.Stamp.read.Goals as goal

pub returns-clause-err : goal.returns-clause-err
returns-clause-err c = rw c.ok_or.ensures.value (IfErr-ok_or c.stamp_in.result _ _
    (subst (λ text. IfNone c.stamp_in.result ((stamp : ℕ) → ¬ (IsStampText text stamp))) c.as_bytes.ensures.value c.stamp_in.ensures.none))

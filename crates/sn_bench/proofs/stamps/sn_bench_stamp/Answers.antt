use Rattle.std.proofs.Common.{sym, subst}
use Rattle.sn_sync.specs.Stamps.{IsStampText}
use Rattle.sn_bench.proofs.stamps.sn_bench_stamp.Goals as goal

pub returns-in-Err-read-clause-none : goal.returns-in-Err-read-clause-none
returns-in-Err-read-clause-none c = λ _ _ stamp h.
    c.in-Err-read.ensures.err stamp (subst (λ text. IsStampText text stamp) (sym c.in-Ok.ensures.cases.0) h)

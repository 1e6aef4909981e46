use Rattle.std.proofs.Common.{sym, subst}
use Rattle.sn_sync.specs.StampParts.{IsTimeOfDay}
use Rattle.sn_sync.proofs.Halves.{halves, rest_is, whole}
use Rattle.sn_sync.proofs.stamp.stamp_in.Goals as goal

pub returns-in_err-days-clause-none : goal.returns-in_err-days-clause-none
returns-in_err-days-clause-none c = rw c.from_residual.ensures (λ stamp h. let parts = halves _ stamp h in c.in_err-days.ensures.none parts.days parts.rest parts.date)

pub returns-in_err-time_of_day-clause-none : goal.returns-in_err-time_of_day-clause-none
returns-in_err-time_of_day-clause-none c = rw c.from_residual-in_err-time_of_day.ensures (λ stamp h.
    let parts = halves _ stamp h in
    c.in_err-time_of_day.ensures.none parts.since
    (subst (λ rest. IsTimeOfDay rest parts.since) (sym (rest_is _ _ _ _ _ c.in_ok-days.ensures.some.1 parts.date)) parts.time))

pub returns-clause-some : goal.returns-clause-some
returns-clause-some c = whole _ _ _ _ c.in_ok-days.ensures.some.1 c.in_ok-time_of_day.ensures.some.1

use Rattle.sn_sync.proofs.StampFacts.{date_read, day_behind, month_behind}
use Rattle.sn_sync.proofs.stamp.date_in.Goals as goal

pub returns-in_err-month-clause-none : goal.returns-in_err-month-clause-none
returns-in_err-month-clause-none c = rw c.from_residual-in_err-month.ensures (λ days rest b.
    c.in_err-month.ensures.none b.month _ (month_behind _ _ _ _ _ c.in_ok-year.ensures.some.1 b))

pub returns-in_err-day-clause-none : goal.returns-in_err-day-clause-none
returns-in_err-day-clause-none c = rw c.from_residual-in_err-day.ensures (λ days rest b.
    c.in_err-day.ensures.none b.day _ (day_behind _ _ _ _ _ _ _ c.in_ok-year.ensures.some.1 c.in_ok-month.ensures.some.1 b))

pub returns-in_err-day_number-clause-none : goal.returns-in_err-day_number-clause-none
returns-in_err-day_number-clause-none c = rw c.from_residual-in_err-day_number.ensures (λ days rest b.
    let year = c.in_ok-year.ensures.some in
    let month = c.in_ok-month.ensures.some in
    let day = c.in_ok-day.ensures.some in
    let read = date_read _ _ _ _ _ _ _ _ _ year.0 month.0 day.0 year.1 month.1 day.1 b in
    c.in_err-day_number.ensures.none days read.0)

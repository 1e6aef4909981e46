use Rattle.std.proofs.Common.{arith, ap, length}
use Rattle.sn_sync.proofs.StampFacts.{micros_behind, minute_behind, second_behind, time_read}
use Rattle.sn_sync.proofs.stamp.time_of_day.Goals as goal
use Rattle.sn_sync.proofs.stamp.time_of_day.Goals.{else-hour-lt24-via-then-hour-lt24+then-minute-lt60+then-second-lt60+else-is_empty, else-hour-lt24-via-then-hour-lt24+then-minute-lt60+else-second-lt60, else-hour-lt24-via-then-hour-lt24+else-minute-lt60, else-hour-lt24-via-else-hour-lt24}

pub returns-in_err-minute-clause-none : goal.returns-in_err-minute-clause-none
returns-in_err-minute-clause-none c = rw c.from_residual-in_err-minute.ensures (λ since b.
    c.in_err-minute.ensures.none b.minute _ (minute_behind _ _ _ _ c.in_ok-hour.ensures.some.1 b))

pub returns-in_err-second-clause-none : goal.returns-in_err-second-clause-none
returns-in_err-second-clause-none c = rw c.from_residual-in_err-second.ensures (λ since b.
    c.in_err-second.ensures.none b.second _ (second_behind _ _ _ _ _ _ c.in_ok-hour.ensures.some.1 c.in_ok-minute.ensures.some.1 b))

pub returns-in_err-micros-clause-none : goal.returns-in_err-micros-clause-none
returns-in_err-micros-clause-none c = rw c.from_residual-in_err-micros.ensures (λ since b.
    c.in_err-micros.ensures.none b.micros _
    (micros_behind _ _ _ _ _ _ _ _ c.in_ok-hour.ensures.some.1 c.in_ok-minute.ensures.some.1 c.in_ok-second.ensures.some.1 b))

pub returns-else-hour-lt24-clause-none : goal.returns-else-hour-lt24-clause-none
returns-else-hour-lt24-clause-none c = λ since b.
    let hour = c.in_ok-hour.ensures.some in
    let minute = c.in_ok-minute.ensures.some in
    let second = c.in_ok-second.ensures.some in
    let micros = c.in_ok-micros.ensures.some in
    let read = time_read _ _ _ _ _ _ _ _ _ _ hour.0 minute.0 second.0 micros.0 hour.1 minute.1 second.1 micros.1 b in
    elim c.else-hour-lt24.branch [
      | else-hour-lt24-via-then-hour-lt24+then-minute-lt60+then-second-lt60+else-is_empty w ↦ let none = ap length read.nothing in grind (arith, none, w.is_empty.ensures)
      | else-hour-lt24-via-then-hour-lt24+then-minute-lt60+else-second-lt60 w ↦ omega (arith, read.second_in)
      | else-hour-lt24-via-then-hour-lt24+else-minute-lt60 w ↦ omega (arith, read.minute_in)
      | else-hour-lt24-via-else-hour-lt24 w ↦ omega (arith, read.hour_in)
    ]

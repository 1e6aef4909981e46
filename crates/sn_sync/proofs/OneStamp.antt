-- A text spells one stamp, and a stamp has one spelling.
use Rattle.std.proofs.Common.{arith, ◌≡◌, ◌∙◌, sym, ap, refl, subst, ℕ, ◌<◌, List, pos}
use Rattle.jiff_core.specs.declared.civil.date.Date.{Date}
use Rattle.jiff_core.specs.Calendar.{IsCivilDate, days_from_civil}
use Rattle.jiff_core.proofs.DateLemmas.{epoch_day_injective}
use Rattle.sn_sync.specs.Laws.{HasOneSpelling, HasOneStamp}
use Rattle.sn_sync.specs.Stamps.{IsMoment, Moment, micros_of_day, moment_text}
use Rattle.sn_sync.specs.StampParts.{BeginsWithDate, IsTimeOfDay}
use Rattle.sn_sync.proofs.Halves.{halves, rest_is}
use Rattle.sn_sync.proofs.Padded.{one_field}
use Rattle.sn_sync.proofs.StampFacts.{IsDayNumber-small, date_read}

same_days : (text r s : List ℕ) (a b : ℕ) → BeginsWithDate text a r → BeginsWithDate text b s → a ≡ b
same_days text r s a b d e =
    let small = IsDayNumber-small d.year d.month d.day a d.is in
    let read = date_read text _ _ r s d.year d.month d.day b small.0 small.1 small.2 d.spelled refl refl e in
    let days = sym d.is.date ∙ read.0.date in
    cc

same_time : (text : List ℕ) (a b : ℕ) → IsTimeOfDay text a → IsTimeOfDay text b → a ≡ b
same_time text a b t u =
    let hour = one_field 2 58 t.hour u.hour text _ _ (omega (arith, t.hour_in)) (omega (arith, u.hour_in)) t.spelled u.spelled in
    let minute = one_field 2 58 t.minute u.minute _ _ _ (omega (arith, t.minute_in)) (omega (arith, u.minute_in)) refl hour.1 in
    let second = one_field 2 46 t.second u.second _ _ _ (omega (arith, t.second_in)) (omega (arith, u.second_in)) refl minute.1 in
    let micros = one_field 6 90 t.micros u.micros _ _ _ t.micros_in u.micros_in refl second.1 in
    omega (arith, t.is, u.is, hour.0, minute.0, second.0, micros.0)

pub one_stamp : HasOneStamp
one_stamp text a b h k =
    let one = halves text a h in
    let other = halves text b k in
    let days = same_days text _ _ _ _ one.date other.date in
    let time = subst (λ rest. IsTimeOfDay rest one.since) (rest_is text _ _ _ _ one.date other.date) one.time in
    let since = same_time other.rest one.since other.since time other.time in
    omega (arith, one.is, other.is, days, since)

date_of : (year month day : ℕ) → IsCivilDate (pos year) month day → Date
date_of year month day h = record { year = pos year; month = month; day = day; year_in = h.0; month_in = h.1; day_in = h.2 }

same_date : (y m d z n e days : ℕ) → IsCivilDate (pos y) m d → IsCivilDate (pos z) n e → days_from_civil (pos y) m d ≡ pos days → days_from_civil (pos z) n e ≡ pos days
    → (y ≡ z) × (m ≡ n) × (d ≡ e)
unfolding date_of
same_date y m d z n e days h k one other =
    let same = epoch_day_injective (date_of y m d h) (date_of z n e k) (one ∙ sym other) in
    let year : pos y ≡ pos z = same.0 in
    (cc, same.1, same.2)

micros_small : (m : Moment) → IsMoment m → micros_of_day m < 86400000000
micros_small m is = omega (arith, is.hour, is.minute, is.second, is.micros)

-- the parts of a time of day
same_clock : (m n : Moment) → IsMoment m → IsMoment n → micros_of_day m ≡ micros_of_day n
    → (m.hour ≡ n.hour) × (m.minute ≡ n.minute) × (m.second ≡ n.second) × (m.micros ≡ n.micros)
same_clock m n h k e =
    let hour : m.hour ≡ n.hour = omega (arith, h.minute, h.second, h.micros, k.minute, k.second, k.micros) in
    let minute : m.minute ≡ n.minute = omega (arith, h.second, h.micros, k.second, k.micros) in
    let second : m.second ≡ n.second = omega (arith, h.micros, k.micros) in
    (hour, minute, second, omega arith)

same_text : (m n : Moment) → m.year ≡ n.year → m.month ≡ n.month → m.day ≡ n.day → m.hour ≡ n.hour → m.minute ≡ n.minute → m.second ≡ n.second → m.micros ≡ n.micros
    → moment_text m ≡ moment_text n
unfolding moment_text
same_text m n year month day hour minute second micros = rw (year, month, day, hour, minute, second, micros) refl

pub one_spelling : HasOneSpelling
one_spelling a b stamp h k =
    let low = micros_small h.moment h.is in
    let other_low = micros_small k.moment k.is in
    let days : h.days ≡ k.days = omega (arith, h.since, k.since) in
    let date = same_date _ _ _ _ _ _ h.days h.is.date k.is.date h.date (k.date ∙ ap pos (sym days)) in
    let clock = same_clock h.moment k.moment h.is k.is (omega (arith, h.since, k.since, days)) in
    h.spelled ∙ same_text h.moment k.moment date.0 date.1 date.2 clock.0 clock.1 clock.2 clock.3 ∙ sym k.spelled

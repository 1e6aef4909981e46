-- Each stamp has a text.
use Rattle.std.proofs.Common.{◌≡◌, ◌⊎◌, ℕ, zero, suc, ◌+◌, ◌/◌, ◌%◌, ◌<◌, ◌≤◌, pos, refl, ap, subst, inl, inr, arith}
use Rattle.std.proofs.lemmas.Bool.{cases_lt}
use Rattle.std.proofs.lemmas.Int.{ints}
use Rattle.jiff_core.proofs.CalendarLemmas.{days_in_month_bounds}
use Rattle.jiff_core.proofs.DateLemmas.{days_from_civil-day, days_from_civil-max, days_from_civil-next_month, days_from_civil-next_year}
use Rattle.jiff_core.proofs.StandardFacts.{known_days}
use Rattle.jiff_core.specs.Calendar.{IsCivilDate, days_from_civil, days_in_month}
use Rattle.sn_sync.specs.Stamps.{IsStampText, Moment, last_stamp, moment_text}
use Rattle.sn_account.specs.Lookups.{Bytes}

-- the date of a day number
record IsDay (day y m d : ℕ) : Type 0 where
  date : IsCivilDate (pos y) m d
  is : days_from_civil (pos y) m d ≡ pos day

abbrev HasDay : ℕ → Type 0
HasDay day = (y : ℕ) × (m : ℕ) × (d : ℕ) × IsDay day y m d

-- 1 January 1970
first_day : HasDay 0
first_day = (1970, 1, 1, record { date = ((omega (arith, ints), omega (arith, ints)), (omega arith, omega arith), (omega arith, omega arith)); is = known_days.0 })

-- the day after
next_day : (day : ℕ) → suc day ≤ 2932896 → HasDay day → HasDay (suc day)
next_day day low (y, m, d, at) = by_day (cases_lt d (days_in_month (pos y) m))
  where
    by_year : days_in_month (pos y) m ≤ d → 12 ≤ m → (y < 9999) ⊎ (9999 ≤ y) → HasDay (suc day)
    by_year last december (inl within) =
        let month : m ≡ 12 = (let range = at.date.1 in omega arith) in
        let long : days_in_month (pos y) m ≡ 31 = ap (days_in_month (pos y)) month in
        let end : d ≡ 31 = (let range = at.date.2 in omega arith) in
        let here : days_from_civil (pos y) 12 31 ≡ pos day = subst (λ (k : ℕ). days_from_civil (pos y) k 31 ≡ pos day) month (subst (λ (k : ℕ). days_from_civil (pos y) m k ≡ pos day) end at.is) in
        let next = days_from_civil-next_year (pos y) (pos (suc y)) (omega (arith, ints)) (omega (arith, ints)) in (
          suc y,
          1,
          1,
          record {
            date = ((omega (arith, ints), omega (arith, ints)), (omega arith, omega arith), (omega arith, omega arith));
            is = (let e = next in omega (arith, ints));
          },
        )
    by_year last december (inr past) =
        let month : m ≡ 12 = (let range = at.date.1 in omega arith) in
        let long : days_in_month (pos y) m ≡ 31 = ap (days_in_month (pos y)) month in
        let end : d ≡ 31 = (let range = at.date.2 in omega arith) in
        let year : y ≡ 9999 = (let range = at.date.0 in omega (arith, ints)) in
        let here : days_from_civil (pos y) 12 31 ≡ pos day = subst (λ (k : ℕ). days_from_civil (pos y) k 31 ≡ pos day) month (subst (λ (k : ℕ). days_from_civil (pos y) m k ≡ pos day) end at.is) in
        let there : days_from_civil (pos 9999) 12 31 ≡ pos day = subst (λ (k : ℕ). days_from_civil (pos k) 12 31 ≡ pos day) year here in
        let greatest = days_from_civil-max in
        absurd (omega (arith, ints))

    by_month : days_in_month (pos y) m ≤ d → (m < 12) ⊎ (12 ≤ m) → HasDay (suc day)
    by_month last (inl within) =
        let range = at.date.1 in
        let end : d ≡ days_in_month (pos y) m = (let days = at.date.2 in omega arith) in
        let next = days_from_civil-next_month (pos y) m d (omega arith) end in
        let is = at.is in
        let long = days_in_month_bounds (pos y) (m + 1) in
        (y, m + 1, 1, record { date = (at.date.0, (omega arith, omega arith), (omega arith, omega arith)); is = omega (arith, ints) })
    by_month last (inr december) = by_year last december (cases_lt y 9999)

    by_day : (d < days_in_month (pos y) m) ⊎ (days_in_month (pos y) m ≤ d) → HasDay (suc day)
    by_day (inl within) =
        let range = at.date.2 in
        let next = days_from_civil-day (pos y) m d (d + 1) (omega arith) (omega arith) in
        let is = at.is in
        (y, m, d + 1, record { date = (at.date.0, at.date.1, (omega arith, omega arith)); is = omega (arith, ints) })
    by_day (inr last) = by_month last (cases_lt m 12)

has_day : (day : ℕ) → day ≤ 2932896 → HasDay day
has_day zero low = first_day
has_day (suc day) low = next_day day low (has_day day (omega arith))

pub has_text : (stamp : ℕ) → stamp ≤ last_stamp → (text : Bytes) × IsStampText text stamp
has_text stamp low = of_day (has_day (stamp / 86400000000) (omega arith))
  where
    since : ℕ
    since = stamp % 86400000000

    of_day : HasDay (stamp / 86400000000) → (text : Bytes) × IsStampText text stamp
    of_day (y, m, d, at) =
        let rest : ℕ = stamp % 86400000000 in
        let seconds : ℕ = rest / 1000000 in
        let minutes : ℕ = seconds / 60 in
        let moment : Moment = record {
          year = y;
          month = m;
          day = d;
          hour = minutes / 60;
          minute = minutes % 60;
          second = seconds % 60;
          micros = rest % 1000000;
        } in (
          moment_text moment,
          record {
            moment = moment;
            is = record { date = at.date; hour = omega arith; minute = omega arith; second = omega arith; micros = omega arith };
            days = stamp / 86400000000;
            date = at.is;
            since = omega arith;
            spelled = refl;
          },
        )

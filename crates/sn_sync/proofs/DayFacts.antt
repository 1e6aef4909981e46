-- Day numbers and dates.
use Rattle.std.proofs.Common.{arith, ◌≡◌, ◌∙◌, sym, ap, refl, subst, ℕ, ◌≤◌, ℤ, pos, negsuc, ◌≤ℤ◌, Result, Ok, Err, Some, IfOk, IfSome, nat_abs, unsigned_abs}
use Rattle.std.proofs.lemmas.Int.{by_lt_z, ints}
use Rattle.jiff_core.proofs.CalendarLemmas.{day_count-epoch, day_count-lt_year, days_from_civil-day_count}
use Rattle.std.specs.Int.{FitsUnsignedBits}
use Rattle.std.specs.Result.{OkIff, result_ok}
use Rattle.jiff_core.specs.declared.civil.date.Date.{Date}
use Rattle.jiff_core.specs.Calendar.{IsCivilDate, days_from_civil}
use Rattle.jiff_core.specs.Date.{epoch_day, IsYmd}
use Rattle.jiff_core.proofs.DateLemmas.{civil, epoch_day_range}
use Rattle.sn_sync.specs.StampParts.{IsDayNumber}

pub IsYmd-found : {E : Type 0} (r : Result Date E) (d : Date) (year month day : ℤ) → IfOk r (IsYmd year month day) → result_ok r ≡ Some d → IsYmd year month day d
IsYmd-found (Ok x) d year month day h e = let same : x ≡ d = cc in subst (IsYmd year month day) same h
IsYmd-found (Err x) d year month day h e = cc

nat_abs-fits : (z : ℤ) → FitsUnsignedBits 64 z → z ≡ pos (nat_abs z)
nat_abs-fits (pos n) h = refl
nat_abs-fits (negsuc n) h = absurd h

pub IsDayNumber-date : (d : Date) (year month day days : ℕ) → d.year ≡ pos year → d.month ≡ month → d.day ≡ day → epoch_day d ≡ pos days → IsDayNumber year month day days
IsDayNumber-date d year month day days y m n is = record {
  is = subst (λ z. IsCivilDate z month day) y (subst (λ k. IsCivilDate d.year k day) m (subst (IsCivilDate d.year d.month) n (civil d)));
  date = ap (λ z. days_from_civil z month day) (sym y) ∙ ap (λ k. days_from_civil d.year k day) (sym m) ∙ ap (days_from_civil d.year d.month) (sym n) ∙ is;
}

-- what is made of a date's day number, if it isn't negative
pub day_found : {E : Type 0} (r : Result ℕ E) (z : ℤ) (d : Date) (year month day : ℕ) → OkIff r (FitsUnsignedBits 64 z) (nat_abs z) → z ≡ epoch_day d
    → d.year ≡ pos year → d.month ≡ month → d.day ≡ day → IfSome (result_ok r) (λ days. (days ≤ 2932896) × IsDayNumber year month day days)
day_found (Err e) z d year month day h is y m n = tt
day_found (Ok x) z d year month day h is y m n =
    let number : epoch_day d ≡ pos x = sym is ∙ nat_abs-fits z h.0 ∙ ap pos (sym h.1) in
    let range = epoch_day_range d in
    (omega (arith, ints), IsDayNumber-date d year month day x y m n number)

-- from 1970 on a year isn't negative
pub year_from : (d : Date) (days : ℕ) → epoch_day d ≡ pos days → pos 0 ≤ℤ d.year
year_from d days is = by_lt_z d.year (pos 0)
    (λ before. let earlier = day_count-lt_year d.year d.month d.day (pos 1970) 1 1 (civil d) (omega arith) (omega (arith, ints)) in
    absurd (omega (arith, ints, days_from_civil-day_count d.year d.month d.day, day_count-epoch)))
    (λ after. omega (arith, ints))

-- and is the one that is left of it without a sign
pub year_abs : (year : ℤ) → pos 0 ≤ℤ year → year ≡ pos (unsigned_abs year)
year_abs (pos n) h = refl
year_abs (negsuc n) h = absurd (omega (arith, ints))

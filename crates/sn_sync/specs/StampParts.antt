-- The two halves of a stamp's text.
use Rattle.std.specs.Prelude.{◌≡◌, ℕ, ◌+◌, ◌*◌, ◌<◌, List, [], ◌∷◌, ◌++◌, pos}
use Rattle.jiff_core.specs.Calendar.{IsCivilDate, days_from_civil}
use Rattle.sn_sync.specs.Stamps.{padded}

-- the calendar has the date, on the day of this number
pub record IsDayNumber (year month day days : ℕ) : Type 0 where
  pub is : IsCivilDate (pos year) month day
  pub date : days_from_civil (pos year) month day ≡ pos days

-- the text begins with the date of this day and a T, and goes on so
pub record BeginsWithDate (text : List ℕ) (days : ℕ) (rest : List ℕ) : Type 0 where
  pub year : ℕ
  pub month : ℕ
  pub day : ℕ
  pub is : IsDayNumber year month day days
  pub spelled : text ≡ padded 4 year ++ 45 ∷ (padded 2 month ++ 45 ∷ (padded 2 day ++ 84 ∷ rest))

-- the text is the time so many microseconds after the beginning of a day
pub record IsTimeOfDay (text : List ℕ) (since : ℕ) : Type 0 where
  pub hour : ℕ
  pub minute : ℕ
  pub second : ℕ
  pub micros : ℕ
  pub hour_in : hour < 24
  pub minute_in : minute < 60
  pub second_in : second < 60
  pub micros_in : micros < 1000000
  pub is : since ≡ ((hour * 60 + minute) * 60 + second) * 1000000 + micros
  pub spelled : text ≡ padded 2 hour ++ 58 ∷ (padded 2 minute ++ 58 ∷ (padded 2 second ++ 46 ∷ (padded 6 micros ++ 90 ∷ [])))

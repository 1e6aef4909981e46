-- Stamps: whole microseconds since 1970-01-01T00:00:00Z, and their one spelling (RFC 3339, 5.6: in UTC, with six digits of a
-- second's fraction).
use Rattle.std.specs.Prelude.{◌≡◌, ℕ, zero, suc, ◌+◌, ◌*◌, ◌/◌, ◌%◌, ◌<◌, ◌≤◌, List, [], ◌∷◌, ◌++◌, Option, Some, codes, pos}
pub use Rattle.sn_string.specs.Bounds.{last_stamp}
use Rattle.jiff_core.specs.Calendar.{IsCivilDate, days_from_civil}

-- a stamp, or none
abbrev pub IsStampOrNone : Option ℕ → Type 0
IsStampOrNone o = (stamp : ℕ) → o ≡ Some stamp → stamp ≤ last_stamp

-- a moment of the calendar and the clock, in UTC
pub record Moment : Type 0 where
  pub year : ℕ
  pub month : ℕ
  pub day : ℕ
  pub hour : ℕ
  pub minute : ℕ
  pub second : ℕ
  pub micros : ℕ

-- the calendar and the clock have it
pub record IsMoment (m : Moment) : Type 0 where
  pub date : IsCivilDate (pos m.year) m.month m.day
  pub hour : m.hour < 24
  pub minute : m.minute < 60
  pub second : m.second < 60
  pub micros : m.micros < 1000000

-- so many digits, with zeros in front
unfoldable pub padded : ℕ → ℕ → List ℕ
padded zero n = []
padded (suc width) n = padded width (n / 10) ++ (48 + n % 10) ∷ []

-- YYYY-MM-DDTHH:MM:SS.ffffffZ
unfoldable pub moment_text : Moment → List ℕ
moment_text m = padded 4 m.year ++ codes "-" ++ padded 2 m.month ++ codes "-" ++ padded 2 m.day
    ++ codes "T" ++ padded 2 m.hour ++ codes ":" ++ padded 2 m.minute ++ codes ":" ++ padded 2 m.second
    ++ codes "." ++ padded 6 m.micros ++ codes "Z"

-- so many microseconds after the beginning of a day
abbrev pub micros_of_day : Moment → ℕ
micros_of_day m = ((m.hour * 60 + m.minute) * 60 + m.second) * 1000000 + m.micros

-- the text is the spelling of this stamp
pub record IsStampText (text : List ℕ) (stamp : ℕ) : Type 0 where
  pub moment : Moment
  pub is : IsMoment moment
  pub days : ℕ
  pub date : days_from_civil (pos moment.year) moment.month moment.day ≡ pos days
  pub since : stamp ≡ days * 86400000000 + micros_of_day moment
  pub spelled : text ≡ moment_text moment

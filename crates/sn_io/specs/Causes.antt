-- Why a call of the outside may fail.
use Rattle.std.specs.Prelude.{ℕ, ◌+◌, ◌-◌, ◌^◌, ◌≤◌, min, Result, OnErr}

-- one more, up to the end of its type
abbrev pub next_count : ℕ → ℕ
next_count count = min (count + 1) (2 ^ 64 - 1)

-- the count rose, or stands at the end of its type
abbrev pub Rose : ℕ → ℕ → Type 0
Rose before now = next_count before ≤ now

-- a count rose, or stands at the end of its type, and didn't fall
pub record IsRise (before now : ℕ) : Type 0 where
  pub later : before ≤ now
  pub rose : Rose before now

-- a count never falls, and has risen where a call failed
pub record CountsFailure {T E : Type 0} (before now : ℕ) (result : Result T E) : Type 0 where
  pub later : before ≤ now
  pub failed : OnErr result (Rose before now)

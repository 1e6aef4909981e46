-- A list of moments, and 0 behind it.
use Rattle.std.specs.Prelude.{ℕ, ◌-◌, ◌^◌, ◌++◌, List, length, take, replicate, nat_lt, slice_index_or, None, Some, if◌then◌else◌}
use Rattle.std.specs.declared.option.Option.{Option}

-- the moment of this number, from 0
abbrev pub time_at : List ℕ → ℕ → ℕ
time_at times number = slice_index_or times number 0

-- so many moments, from the first
abbrev pub first_times : List ℕ → ℕ → List ℕ
first_times times count = take count times ++ replicate (count - length times) 0

-- the moments that were given, told while their count can rise
abbrev pub told_times : List ℕ → ℕ → Option (List ℕ)
told_times times count = if nat_lt count (2 ^ 64 - 1) then Some (first_times times count) else None

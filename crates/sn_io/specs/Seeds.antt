-- A list of seeds, and zeros behind it.
use Rattle.std.specs.Prelude.{ℕ, ◌-◌, ◌^◌, ◌++◌, List, length, take, replicate, nat_lt, slice_index_or, None, Some, if◌then◌else◌}
use Rattle.std.specs.declared.option.Option.{Option}

-- the seed of this number, from 0
abbrev pub seed_at : List (List ℕ) → ℕ → List ℕ
seed_at seeds number = slice_index_or seeds number (replicate 32 0)

-- so many seeds, from the first
abbrev pub first_seeds : List (List ℕ) → ℕ → List (List ℕ)
first_seeds seeds count = take count seeds ++ replicate (count - length seeds) (replicate 32 0)

-- the seeds that were given, told while their count can rise
abbrev pub told_seeds : List (List ℕ) → ℕ → Option (List (List ℕ))
told_seeds seeds count = if nat_lt count (2 ^ 64 - 1) then Some (first_seeds seeds count) else None

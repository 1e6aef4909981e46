-- A clock that stands still.
use Rattle.std.specs.Prelude.{ℕ, ◌-◌, ◌^◌, List, replicate, nat_lt, None, Some, if◌then◌else◌}
use Rattle.std.specs.declared.option.Option.{Option}
use Rattle.sn_link.specs.declared.clock.StillClock.{StillClock}

-- one moment, so often; told while the count can rise
abbrev pub still_times : ℕ → ℕ → Option (List ℕ)
still_times moment count = if nat_lt count (2 ^ 64 - 1) then Some (replicate count moment) else None

-- the moments that it gave, where it tells them
abbrev pub clock_told : StillClock → Option (List ℕ)
clock_told clock = still_times clock.moment clock.given

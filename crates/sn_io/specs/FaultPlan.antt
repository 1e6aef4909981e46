-- By which plan an object in memory fails.
use Rattle.std.specs.Prelude.{ℕ, ◌==◌, Bool, List, if◌then◌else◌}
use Rattle.std.specs.List.{list_any}
use Rattle.sn_io.specs.Causes.{next_count}

-- the numbers of the calls that are to fail, how many were made, how many failed, and how many of these for want
-- of memory
pub record Plan : Type 0 where
  pub listed : List ℕ
  pub calls : ℕ
  pub faults : ℕ
  pub wants : ℕ

-- before the first call
abbrev pub fresh : List ℕ → Plan
fresh listed = record { listed = listed; calls = 0; faults = 0; wants = 0 }

-- the next call is to fail
abbrev pub is_listed : Plan → Bool
is_listed plan = list_any (λ number. number == plan.calls) plan.listed

-- one call more, and one fault more where it is listed
abbrev pub began : Plan → Plan
began plan = record {
  listed = plan.listed;
  calls = next_count plan.calls;
  faults = if is_listed plan then next_count plan.faults else plan.faults;
  wants = plan.wants;
}

-- one fault more
abbrev pub failed : Plan → Plan
failed plan = record {
  listed = plan.listed;
  calls = plan.calls;
  faults = next_count plan.faults;
  wants = plan.wants;
}

-- one fault more, for want of memory
abbrev pub wanted : Plan → Plan
wanted plan = record {
  listed = plan.listed;
  calls = plan.calls;
  faults = next_count plan.faults;
  wants = next_count plan.wants;
}

-- a call that failed, since it is listed or else for want of memory
abbrev pub after_fault : Plan → Plan
after_fault plan = if is_listed plan then began plan else wanted (began plan)

-- What a disk in memory tells, and how its calls end.
use Rattle.std.specs.Prelude.{◌≡◌, ◌⊎◌, ◌≤◌, ◌==◌, ℕ, Bool, false, List, IsTrue, Result, Ok, Err}
use Rattle.std.specs.List.{list_any}
use Rattle.sn_io.specs.Causes.{Rose}
use Rattle.sn_io.specs.FaultPlan.{Plan, is_listed, began, failed, wanted}
use Rattle.sn_disk.specs.Steps.{Told, Step}
use Rattle.sn_disk.specs.Courses.{DiskState, Does, StopsIn, Runs}
use Rattle.sn_disk.specs.declared.images.Stop.{Stop}
use Rattle.sn_disk.specs.declared.memory.MemDisk.{MemDisk}

-- its bytes and the record of its changing calls
abbrev pub disk_told : MemDisk → Told
disk_told disk = disk.history

-- the plan of its failing calls, with their counts
abbrev pub disk_plan : MemDisk → Plan
disk_plan disk = disk.plan

-- when it is to stop
abbrev pub disk_stop : MemDisk → Stop
disk_stop disk = disk.stop

-- whether it has stopped
abbrev pub disk_stopped : MemDisk → Bool
disk_stopped disk = disk.stopped

abbrev pub disk_state : MemDisk → DiskState
disk_state disk = record { told = disk.history; stop = disk.stop; stopped = disk.stopped }

-- it is to stop then, and goes on with what it tells
pub record HasStopSet (stop : Stop) (old new : MemDisk) : Type 0 where
  pub told : disk_told new ≡ disk_told old
  pub stop_is : disk_stop new ≡ stop
  pub going : disk_stopped new ≡ false
  pub plan : disk_plan new ≡ disk_plan old

-- A call that isn't listed, on a disk that hasn't stopped.
pub record BeginsCall (old new : MemDisk) : Type 0 where
  pub not_listed : is_listed (disk_plan old) ≡ false
  pub awake : disk_stopped old ≡ false
  pub plan : disk_plan new ≡ began (disk_plan old)

-- A call that left all as it was, and counted its fault: it is listed, or the disk has stopped before.
pub record RefusesCall (old new : MemDisk) : Type 0 where
  pub state : disk_state new ≡ disk_state old
  pub cause : (IsTrue (is_listed (disk_plan old)) × (disk_plan new ≡ began (disk_plan old)))
      ⊎ (IsTrue (disk_stopped old) × (disk_plan new ≡ failed (began (disk_plan old))))

-- A changing call that left all as it was, for want of memory.
pub record Wants (old new : MemDisk) : Type 0 where
  pub state : disk_state new ≡ disk_state old
  pub plan : disk_plan new ≡ wanted (began (disk_plan old))

-- A changing call in which the disk stopped.
pub record Stops (call : Step) (old new : MemDisk) : Type 0 where
  pub stops : StopsIn (disk_state old) call (disk_state new)
  pub plan : disk_plan new ≡ failed (began (disk_plan old))

-- the part of a changing call after it was counted: memory was wanting
pub record IsWanting (old new : MemDisk) : Type 0 where
  pub state : disk_state new ≡ disk_state old
  pub plan : disk_plan new ≡ wanted (disk_plan old)

-- .. or the disk stopped in it
pub record IsStopping (call : Step) (old new : MemDisk) : Type 0 where
  pub stops : StopsIn (disk_state old) call (disk_state new)
  pub plan : disk_plan new ≡ failed (disk_plan old)

-- how a call that changes nothing ends
abbrev pub ReadEnds : {T E : Type 0} → MemDisk → MemDisk → Result T E → Type 0
ReadEnds old new (Ok value) = BeginsCall old new × (disk_state new ≡ disk_state old)
ReadEnds old new (Err e) = RefusesCall old new

-- how a changing call ends
abbrev pub ChangeEnds : {T E : Type 0} → Step → MemDisk → MemDisk → Result T E → Type 0
ChangeEnds call old new (Ok value) = BeginsCall old new × Does (disk_state old) call (disk_state new)
ChangeEnds call old new (Err e) = RefusesCall old new ⊎ (Wants old new ⊎ Stops call old new)

-- the call of this number is to fail
abbrev pub lists : List ℕ → ℕ → Bool
lists listed number = list_any (λ other. other == number) listed

-- one of the calls between these counts is listed
pub record HasListed (listed : List ℕ) (before now : ℕ) : Type 0 where
  pub number : ℕ
  pub is : IsTrue (lists listed number)
  pub from : before ≤ number
  pub to : number ≤ now

-- A run of calls in which none failed, or one failed since it was listed, the disk stopped, or memory was wanting.
pub record Counted (old new : MemDisk) : Type 0 where
  pub listed : (disk_plan new).listed ≡ (disk_plan old).listed
  pub calls : (disk_plan old).calls ≤ (disk_plan new).calls
  pub wants : (disk_plan old).wants ≤ (disk_plan new).wants
  pub faults : ((disk_plan new).faults ≡ (disk_plan old).faults)
      ⊎ (HasListed (disk_plan old).listed (disk_plan old).calls (disk_plan new).calls
      ⊎ (IsTrue (disk_stopped new) ⊎ Rose (disk_plan old).wants (disk_plan new).wants))

-- the same disk after a run of calls, of which these changed it
pub record Grows (old new : MemDisk) : Type 0 where
  pub calls : List Step
  pub runs : Runs (disk_state old) calls (disk_state new)
  pub counted : Counted old new

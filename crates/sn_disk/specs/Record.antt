-- The record of a disk in memory, as it is kept: the bytes that reads give, and what undoes each call.
use Rattle.std.specs.Prelude.{◌≡◌, ◌≤◌, ℕ, List, [], ◌∷◌, ◌++◌, length, take, drop, reverse, map, ⊤}
use Rattle.sn_disk.specs.Steps.{Step, write_step, cut_step, sync_step, stop_step, after_step, Told}
use Rattle.sn_disk.specs.declared.calls.Call.{Call}
use Rattle.sn_disk.specs.declared.calls.Call.TheVariants as call
use Rattle.sn_disk.specs.declared.undo.Undo.{Undo}
use Rattle.sn_disk.specs.declared.undo.Undo.TheVariants as undo

abbrev pub step_of : Call → Step
step_of (call.Write at bytes) = write_step at bytes.now
step_of (call.Cut len) = cut_step len
step_of call.Sync = sync_step

-- a write begins in the file, or where it ends
abbrev pub Fits : List ℕ → Call → Type 0
Fits file (call.Write at bytes) = at ≤ length file
Fits file (call.Cut len) = ⊤
Fits file call.Sync = ⊤

-- what undoes a call: of a write its place, how many bytes it wrote, and those that it wrote over; of a cut the length, and
-- what stood behind it; of a stop the bytes before it
pub data Back : Type 0 where
  write_back : ℕ → ℕ → List ℕ → Back
  cut_back : ℕ → List ℕ → Back
  sync_back : Back
  stop_back : List ℕ → Back

abbrev pub back_of : Undo → Back
back_of (undo.Write at count over) = write_back at count over.items
back_of (undo.Cut len tail) = cut_back len tail.items
back_of undo.Sync = sync_back
back_of (undo.Stop before) = stop_back before.items

-- the bytes before the call
abbrev pub undone : List ℕ → Back → List ℕ
undone file (write_back at count over) = (take at file ++ over) ++ drop count (drop at file)
undone file (cut_back len tail) = file ++ tail
undone file sync_back = file
undone file (stop_back before) = before

-- the call that led to these bytes
abbrev pub step_back : List ℕ → Back → Step
step_back file (write_back at count over) = write_step at (take count (drop at file))
step_back file (cut_back len tail) = cut_step len
step_back file sync_back = sync_step
step_back file (stop_back before) = stop_step file

-- a write or a cut, of which a crash may leave a part
abbrev pub IsUnsynced : Step → Type 0
IsUnsynced (write_step at bytes) = ⊤
IsUnsynced (cut_step len) = ⊤
IsUnsynced sync_step = ⊥
IsUnsynced (stop_step left) = ⊥

-- a sync or a stop: a crash behind it leaves what reads give
abbrev pub EndsHere : Step → Type 0
EndsHere (write_step at bytes) = ⊥
EndsHere (cut_step len) = ⊥
EndsHere sync_step = ⊤
EndsHere (stop_step left) = ⊤

-- the bytes before all of the calls, the newest first
abbrev pub first_of : List ℕ → List Back → List ℕ
first_of file [] = file
first_of file (last ∷ earlier) = first_of (undone file last) earlier

-- the calls that led to these bytes, the newest first
abbrev pub steps_back : List ℕ → List Back → List Step
steps_back file [] = []
steps_back file (last ∷ earlier) = step_back file last ∷ steps_back (undone file last) earlier

-- each call leads on from the bytes before it
abbrev pub Redoes : List ℕ → List Back → Type 0
Redoes file [] = ⊤
Redoes file (last ∷ earlier) = (file ≡ after_step (undone file last) (step_back file last)) × Redoes (undone file last) earlier

-- what undoes these calls, the newest first
abbrev pub newest_first : List Undo → List Back
newest_first undos = reverse (map back_of undos)

-- what is told of these bytes, with what undoes each call, the oldest first
abbrev pub told_of : List ℕ → List Undo → Told
told_of file undos = record { start = first_of file (newest_first undos); bytes = file; steps = reverse (steps_back file (newest_first undos)) }

-- The record of a disk in memory, as contracts see it.
use Rattle.std.specs.Prelude.{◌≡◌, ◌≤◌, ℕ, List, [], ◌∷◌, ◌++◌, length, take, reverse, Bool, true, false, ⊤}
use Rattle.sn_disk.specs.Disk.{overwritten, Torn, Cut}

-- a changing call: bytes at a place, a length, a sync, or a stop that left these bytes
pub data Step : Type 0 where
  write_step : ℕ → List ℕ → Step
  cut_step : ℕ → Step
  sync_step : Step
  stop_step : List ℕ → Step

-- a write, a cut or a sync
abbrev pub IsCall : Step → Type 0
IsCall (write_step at bytes) = ⊤
IsCall (cut_step len) = ⊤
IsCall sync_step = ⊤
IsCall (stop_step left) = ⊥

-- the bytes that reads give after it
abbrev pub after_step : List ℕ → Step → List ℕ
after_step file (write_step at bytes) = overwritten file at bytes
after_step file (cut_step len) = take len file
after_step file sync_step = file
after_step file (stop_step left) = left

-- what a crash in it, or before the next sync, makes of what was left before
abbrev pub StepLeaves : Step → List ℕ → List ℕ → Type 0
StepLeaves (write_step at bytes) old new = Torn at (length bytes) old new
StepLeaves (cut_step len) old new = Cut len old new
StepLeaves sync_step old new = new ≡ old
StepLeaves (stop_step left) old new = new ≡ left

-- the bytes after these steps, the newest first
abbrev pub replayed : List ℕ → List Step → List ℕ
replayed start [] = start
replayed start (step ∷ earlier) = after_step (replayed start earlier) step

-- what a crash after these steps may leave, the newest first
abbrev pub Reaches : List ℕ → List Step → List ℕ → Type 0
Reaches start [] c = c ≡ start
Reaches start (write_step at bytes ∷ earlier) c = (d : List ℕ) × Reaches start earlier d × Torn at (length bytes) d c
Reaches start (cut_step len ∷ earlier) c = (d : List ℕ) × Reaches start earlier d × Cut len d c
Reaches start (sync_step ∷ earlier) c = c ≡ replayed start earlier
Reaches start (stop_step left ∷ earlier) c = c ≡ left

-- what a disk in memory tells: the bytes it was made with, those that reads give, and its steps, the oldest first
pub record Told : Type 0 where
  pub start : List ℕ
  pub bytes : List ℕ
  pub steps : List Step

-- what a crash now may leave
abbrev pub Leaves : Told → List ℕ → Type 0
Leaves told c = Reaches told.start (reverse told.steps) c

-- what a crash at some moment from t on might have left
abbrev pub LeftSince : Told → ℕ → List ℕ → Type 0
LeftSince told t c = (k : ℕ) × (t ≤ k) × (k ≤ length told.steps) × Reaches told.start (reverse (take k told.steps)) c

-- what a crash at this moment might have left
abbrev pub LeftAt : Told → ℕ → List ℕ → Type 0
LeftAt told t c = Reaches told.start (reverse (take t told.steps)) c

-- one step more
abbrev pub with_step : Told → Step → Told
with_step told step = record { start = told.start; bytes = after_step told.bytes step; steps = told.steps ++ step ∷ [] }

-- the newest of these steps is a stop
abbrev pub ends_in_stop : List Step → Bool
ends_in_stop [] = false
ends_in_stop (write_step at bytes ∷ earlier) = false
ends_in_stop (cut_step len ∷ earlier) = false
ends_in_stop (sync_step ∷ earlier) = false
ends_in_stop (stop_step left ∷ earlier) = true

-- its bytes are those that its steps give
abbrev pub IsKept : Told → Type 0
IsKept told = told.bytes ≡ replayed told.start (reverse told.steps)

-- What can happen in the world, step by step, and the moves that each step says.
use Rattle.std.specs.Prelude.{◌≡◌, ℕ, List, [], ◌∷◌, ◌++◌, Bool, true, false}
use Rattle.sn_laws.specs.Lookups.{Bytes}
use Rattle.sn_laws.specs.Runs.{end_from}
use Rattle.sn_laws.specs.declared.ideal.Ideal.{Ideal}
use Rattle.sn_laws.specs.declared.moves.Move.{Move}
use Rattle.sn_rows.specs.declared.change.Change.{Change}
use Rattle.sn_sync.specs.declared.answer.Answer.{Answer}
use Rattle.sn_world.specs.Committing.{Commits, MayCommit, SaysCommit}
use Rattle.sn_world.specs.First.{Starts}
use Rattle.sn_world.specs.Making.{MakesRequest}
use Rattle.sn_world.specs.Serving.{SaysServed, Serves}
use Rattle.sn_device.specs.Steps.{What}
use Rattle.sn_world.specs.World.{Made, World}

-- one step; a commit that a crash takes away doesn't stand
pub data Happens : Type 0 where
  -- the server's first commit
  starts : List Change → Bool → Happens
  -- a device makes a request
  makes : Made → Happens
  -- the server answers a request that was made, at this time, and commits that
  serves : Made → ℕ → List Change → Answer → Bool → Happens
  -- a device of this name commits
  commits : Bytes → What → List Change → Bool → Happens

-- the step leads from the one world to the other, while the ideal state is this
abbrev pub Does : Bytes → World → Ideal → Happens → World → Type 0
Does secret w s (starts changes true) next = Starts w next secret changes
Does secret w s (makes m) next = MakesRequest w next m
Does secret w s (serves m now changes given true) next = Serves w next m now changes given
Does secret w s (commits name what changes true) next = Commits w next name what changes × MayCommit secret w.server (w.devices name) s name what
Does secret w s (starts changes false) next = next ≡ w
Does secret w s (serves m now changes given false) next = next ≡ w
Does secret w s (commits name what changes false) next = next ≡ w

-- the moves of the step
abbrev pub Says : World → Ideal → Happens → List Move → Type 0
Says w s (serves m now changes given true) moves = SaysServed w.server (w.devices m.device) m changes moves
Says w s (commits name what changes true) moves = SaysCommit (w.devices name) s name what changes moves
Says w s (starts changes stands) moves = moves ≡ []
Says w s (makes m) moves = moves ≡ []
Says w s (serves m now changes given false) moves = moves ≡ []
Says w s (commits name what changes false) moves = moves ≡ []

-- one after another, with the moves of all
abbrev pub Trace : Bytes → World → Ideal → List Happens → List Move → World → Type 0
Trace secret w s [] moves next = (moves ≡ []) × (next ≡ w)
Trace secret w s (step ∷ steps) moves next =
    (mid : World) × (first : List Move) × (later : List Move) × Does secret w s step mid × Says w s step first
    × Trace secret mid (end_from s first) steps later next × (moves ≡ first ++ later)

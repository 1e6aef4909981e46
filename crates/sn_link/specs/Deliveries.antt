-- What becomes of bytes that are delivered to a server in memory.
use Rattle.std.specs.Prelude.{◌≡◌, ◌⊎◌, ◌++◌, ℕ, List, [], ◌∷◌, Option, Some, None, Result, Ok, Err, Vec, ⊤}
use Rattle.std.specs.declared.alloc.Global.{Global}
use Rattle.sn_account.specs.Sound.{IsSound}
use Rattle.sn_disk.specs.MemDisk.{disk_told}
use Rattle.sn_disk.specs.Steps.{Leaves}
use Rattle.sn_disk.specs.declared.memory.MemDisk.{MemDisk}
use Rattle.sn_http.specs.Messages.{IsCheck, IsMessage}
use Rattle.sn_net.specs.declared.link.AskError.{AskError}
use Rattle.sn_net.specs.declared.link.AskError.TheVariants.{Failed, Memory}
use Rattle.sn_rows.specs.Table.{rows_of_batches}
use Rattle.sn_rows.specs.declared.change.Change.{Change}
use Rattle.sn_server.specs.CheckBodies.{check_bytes}
use Rattle.sn_server.specs.Replies.{RepliesByRule}
use Rattle.sn_server.specs.Steps.{AreSteps, Step, after_all, bytes_of, step_answer}
use Rattle.sn_server.specs.Stores.{IsOpen, Kept, MayHave, after, server_disk, server_rows}
use Rattle.sn_server.specs.declared.serving.Ended.{Ended}
use Rattle.sn_server.specs.declared.serving.Ended.TheVariants as ended
use Rattle.sn_link.specs.declared.delivery.Held.{Held}
use Rattle.sn_link.specs.declared.delivery.Held.TheVariants.{Open, Broken}

-- ---- what a server has

-- it is open with these rows and batches; or its disk failed in a commit of these changes behind them
pub data Standing : Type 0 where
  serves : Kept → Standing
  failed : Kept → List Change → Standing

-- the server or the disk has that, also after a crash: a disk that failed has all of the last commit or nothing
abbrev pub Holds : Held → Standing → Type 0
Holds (Open server) (serves kept) = IsOpen server kept
Holds (Open server) (failed kept made) = ⊥
Holds (Broken disk) (serves kept) = ⊥
Holds (Broken disk) (failed kept made) = MayHave (Unit {0}) (λ (d : MemDisk). Leaves (disk_told d)) disk kept made

abbrev pub held_disk : Held → MemDisk
held_disk (Open server) = server_disk server
held_disk (Broken disk) = disk

-- the rows of an open server are sound
abbrev pub IsSoundHeld : Held → Type 0
IsSoundHeld (Open server) = IsSound (server_rows server)
IsSoundHeld (Broken disk) = ⊤

-- the batches leave just the rows
abbrev pub Agrees : Kept → Type 0
Agrees kept = kept.rows ≡ rows_of_batches kept.batches

-- .. those of a disk that failed in a further one too
abbrev pub AgreesIn : Standing → Type 0
AgreesIn (serves kept) = Agrees kept
AgreesIn (failed had made) = Agrees had

-- ---- messages that are served

-- each at this moment
abbrev pub AreAt : ℕ → List Step → Type 0
AreAt now [] = ⊤
AreAt now (step ∷ steps) = (step.now ≡ now) × AreAt now steps

-- these messages are at the front of the bytes, and each is ruled at this moment on what those before it left
pub record AreServed (now : ℕ) (kept : Kept) (bytes : List ℕ) (steps : List Step) (rest : List ℕ) : Type 0 where
  pub are : AreSteps kept steps
  pub front : bytes ≡ bytes_of steps ++ rest
  pub at : AreAt now steps

-- the first message is served, and its answer is this
pub record IsReplied (now : ℕ) (kept : Kept) (bytes given : List ℕ) (next : Kept) : Type 0 where
  pub step : Step
  pub rest : List ℕ
  pub served : AreServed now kept bytes (step ∷ []) rest
  pub given_is : given ≡ step_answer step
  pub next_is : next ≡ after kept step.made

-- the bytes fail a check, or there are none: nothing is served
abbrev pub IsChecked : List ℕ → List ℕ → Type 0
IsChecked bytes given = ((status : ℕ) × IsCheck status bytes × (given ≡ check_bytes status)) ⊎ ((bytes ≡ []) × (given ≡ []))

-- The disk failed in the commit of what a message changes, behind others that were served. In front of a request alone there is none.
pub record Fails (now : ℕ) (kept : Kept) (bytes : List ℕ) (had : Kept) (made : List Change) : Type 0 where
  pub steps : List Step
  pub rest : List ℕ
  pub served : AreServed now kept bytes steps rest
  pub had_is : had ≡ after_all kept steps
  pub lost : Step
  pub later : List ℕ
  pub split : rest ≡ lost.bytes ++ later
  pub at : lost.now ≡ now
  pub made_is : lost.made ≡ made
  pub message : IsMessage lost.bytes lost.message
  pub rule : RepliesByRule had.rows lost.message lost.now lost.made lost.reply

-- Bytes are delivered at this moment to a server that has this: what it answers, where it answers, and what it has behind them. It
-- gives no answer where memory is wanting, for a message, or for the answer behind its commit, and where its disk fails.
abbrev pub Delivers : ℕ → Kept → List ℕ → Option (List ℕ) → Standing → Type 0
Delivers now kept bytes (Some given) (serves next) = IsReplied now kept bytes given next ⊎ ((next ≡ kept) × IsChecked bytes given)
Delivers now kept bytes (Some given) (failed had made) = ⊥
Delivers now kept bytes None (serves next) = (steps : List Step) × (rest : List ℕ) × AreServed now kept bytes steps rest × (next ≡ after_all kept steps)
Delivers now kept bytes None (failed had made) = Fails now kept bytes had made

-- ---- what is heard of them

-- what was written in a session that ended so, where that is a whole answer
abbrev pub given_by : Ended → List ℕ → Option (List ℕ)
given_by ended.End written = Some written
given_by (ended.Broken place) written = Some written
given_by ended.Budget written = Some written
given_by ended.ReadFault written = None
given_by ended.WriteFault written = None
given_by ended.Memory written = None

-- the answer is handed over, if memory is not wanting
abbrev pub HandsOver : Option (List ℕ) → Result (Vec ℕ Global) AskError → Type 0
HandsOver given (Ok answer) = given ≡ Some answer.items
HandsOver given (Err Failed) = ⊥
HandsOver given (Err Memory) = ⊤

-- .. where the disk failed nothing is
abbrev pub IsHandedOver : Option (List ℕ) → Standing → Result (Vec ℕ Global) AskError → Type 0
IsHandedOver given (serves next) result = HandsOver given result
IsHandedOver given (failed had made) result = result ≡ Err Failed

-- what a server that stands so does with bytes at a moment
abbrev pub Reaches : ℕ → Standing → List ℕ → Standing → Result (Vec ℕ Global) AskError → Type 0
Reaches now (serves kept) bytes next result = (given : Option (List ℕ)) × Delivers now kept bytes given next × IsHandedOver given next result
Reaches now (failed had made) bytes next result = (next ≡ failed had made) × (result ≡ Err Failed)

-- The same over a server that answers each request that is delivered by its rule: nothing is asked of the request, since it is within its bounds.
use Rattle.std.specs.Prelude.{ℕ, List, ◌++◌}
use Rattle.rand_chacha.specs.ChaCha.{ChaCha}
use Rattle.sn_account.specs.Lookups.{HasStore}
use Rattle.sn_device.specs.Runs.{Act, Call, Halt, Run}
use Rattle.sn_laws.specs.Each.{Each}
use Rattle.sn_laws.specs.Lookups.{Bytes, empty}
use Rattle.sn_laws.specs.Runs.{Legal, end}
use Rattle.sn_laws.specs.declared.ideal.Ideal.{Ideal}
use Rattle.sn_lines.specs.Lines.{AllLead, InTurn, MayCall}
use Rattle.sn_rows.specs.declared.server_rows.StoreRow.{StoreRow}
use Rattle.sn_sync.specs.Fits.{FitsRequest}
use Rattle.sn_world.specs.Calls.{AreServed, Fate}
use Rattle.sn_world.specs.Delivered.{AreServedBy, IsAgainBy}
use Rattle.sn_world.specs.First.{IsFirst}
use Rattle.sn_world.specs.Fitting.{FitsCall, FitsRows}
use Rattle.sn_world.specs.Holds.{Holds, TokensDiffer}
use Rattle.sn_world.specs.Sessions.{LeadsLine, Line, again, calls, opens, stops}
use Rattle.sn_world.specs.World.{World, at_first}

-- ---- worlds

-- the rows of each device are such that its requests are within the bounds of those that are read, and so is each request that was made
pub record FitsAll (w : World) : Type 0 where
  pub devices : (name : Bytes) → FitsRows (w.devices name)
  pub made : Each (λ m. FitsRequest m.request) w.made

-- ---- what happens

-- the acts of a line are those of a run of its call, whole or stopped
abbrev pub IsRunOf : World → Line → Type 0
IsRunOf w (opens changes stands) = Unit {0}
IsRunOf w (calls name least call words acts fates halt stands) = Run least call (w.devices name) words acts halt
IsRunOf w (stops name least call words front met) = (later : List Act) × (halt : Halt) × Run least call (w.devices name) words (front ++ later) halt
IsRunOf w (again name r fate) = Unit {0}

-- the words of its call are within their bounds
abbrev pub FitsLine : Line → Type 0
FitsLine (opens changes stands) = Unit {0}
FitsLine (calls name least call words acts fates halt stands) = FitsCall call
FitsLine (stops name least call words front met) = FitsCall call
FitsLine (again name r fate) = Unit {0}

-- a whole call of the device's rows as they stand; an identifier that is signed in with is within its bounds
pub record IsCallBy (w : World) (s : Ideal) (name : Bytes) (least : ℕ) (call : Call) (words : ChaCha) (acts : List Act) (fates : List Fate) (halt : Halt) : Type 0 where
  pub fits : FitsCall call
  pub may : MayCall s (w.devices name) call
  pub runs : Run least call (w.devices name) words acts halt
  pub over : AreServedBy w.server acts fates

-- the first acts of such a call, with their fates
pub record IsFrontBy (w : World) (s : Ideal) (name : Bytes) (least : ℕ) (call : Call) (words : ChaCha) (front : List Act) (met : List Fate) : Type 0 where
  pub later : List Act
  pub others : List Fate
  pub halt : Halt
  pub called : IsCallBy w s name least call words (front ++ later) (met ++ others) halt
  pub over : AreServedBy w.server front met

abbrev pub MayHappenBy : Bytes → World → Ideal → Line → Type 0
MayHappenBy secret w s (opens changes stands) = ((store : StoreRow) → ¬ (HasStore w.server store)) × IsFirst secret changes
MayHappenBy secret w s (calls name least call words acts fates halt stands) = IsCallBy w s name least call words acts fates halt
MayHappenBy secret w s (stops name least call words front met) = IsFrontBy w s name least call words front met
MayHappenBy secret w s (again name r fate) = IsAgainBy w name r fate

-- each in its turn
abbrev pub MayHappenAllBy : Bytes → World → Ideal → List Line → Type 0
MayHappenAllBy secret w s lines = InTurn secret (MayHappenBy secret) w s lines

-- ---- the laws

-- before anything happened it is so
abbrev pub AllFitFirst : Type 0
AllFitFirst = FitsAll at_first

-- of such rows each request of a call, whatever it is, is served where the server answers it by its rule
abbrev pub EachServed : Type 0
EachServed = (w : World) (name : Bytes) (least : ℕ) (call : Call) (words : ChaCha) (acts : List Act) (fates : List Fate) (halt : Halt)
    → FitsRows (w.devices name) → FitsCall call → Run least call (w.devices name) words acts halt → AreServedBy w.server acts fates → AreServed w.server acts fates

-- and wherever a line leads, it is so again
abbrev pub EachFits : Type 0
EachFits = (secret : Bytes) (w : World) (s : Ideal) (line : Line) → FitsAll w → FitsLine line → IsRunOf w line → (x : LeadsLine secret w s line) → FitsAll x.next

-- from a world in which the invariant holds
abbrev pub AllGoBy : Type 0
AllGoBy = (secret : Bytes) (w : World) (s : Ideal) (lines : List Line) → TokensDiffer secret → Holds secret w s → FitsAll w → MayHappenAllBy secret w s lines
    → (x : AllLead secret w s lines) × FitsAll x.next

-- and from the beginning on
abbrev pub AllKeepBy : Type 0
AllKeepBy = (secret : Bytes) (lines : List Line) → TokensDiffer secret → MayHappenAllBy secret at_first empty lines
    → (x : AllLead secret at_first empty lines) × FitsAll x.next × Legal x.moves × Holds secret x.next (end x.moves)

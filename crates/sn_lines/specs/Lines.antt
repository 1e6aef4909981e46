-- What devices and a server do, one thing after another, changes of password among it: the lines of sn_world, whatever their calls are.
use Rattle.std.specs.Prelude.{◌≡◌, ℕ, List, [], ◌∷◌, ◌++◌}
use Rattle.rand_chacha.specs.ChaCha.{ChaCha}
use Rattle.sn_account.specs.Lookups.{HasStore}
use Rattle.sn_device.specs.Runs.{Act, Call, Halt, Run, content, delete, edit, list, passwd, put, register, sign_in, sync}
use Rattle.sn_laws.specs.Lookups.{Bytes, empty}
use Rattle.sn_laws.specs.Runs.{Legal, end, end_from}
use Rattle.sn_laws.specs.declared.ideal.Ideal.{Ideal}
use Rattle.sn_laws.specs.declared.moves.Move.{Move}
use Rattle.sn_passwd.specs.Calls.{IsOnlyAsked}
use Rattle.sn_rows.specs.Table.{Rows}
use Rattle.sn_rows.specs.declared.server_rows.StoreRow.{StoreRow}
use Rattle.sn_world.specs.Calls.{AreServed, Fate, IsOnlyOf}
use Rattle.sn_world.specs.First.{IsFirst}
use Rattle.sn_world.specs.Happens.{Happens, Trace}
use Rattle.sn_world.specs.Holds.{Holds, TokensDiffer}
use Rattle.sn_world.specs.Laws.{KeptBy}
use Rattle.sn_world.specs.Sessions.{AreStepsOf, IsAgain, LeadsLine, Line, again, calls, device_behind_all, made_behind, opens, server_behind_all, stops}
use Rattle.sn_world.specs.World.{World, at_first}

-- ---- what happens

-- a sign-in needs that no second password was found that has the check value of the first; a sync and a change of password that none was found that has that
-- of a set which the device's rows keep as asked for; no other call needs anything
abbrev pub MayCall : Ideal → Rows → Call → Type 0
MayCall s device (register identifier password cost) = Unit {0}
MayCall s device (sign_in identifier password) = IsOnlyOf s identifier password
MayCall s device (put kind text) = Unit {0}
MayCall s device (edit uuid text) = Unit {0}
MayCall s device (delete uuid) = Unit {0}
MayCall s device list = Unit {0}
MayCall s device (content uuid) = Unit {0}
MayCall s device sync = IsOnlyAsked s device
MayCall s device (passwd password cost) = IsOnlyAsked s device

-- a whole call of the device's rows as they stand, over the server's as they stand
pub record IsCallOf (w : World) (s : Ideal) (name : Bytes) (least : ℕ) (call : Call) (words : ChaCha) (acts : List Act) (fates : List Fate) (halt : Halt) : Type 0 where
  pub may : MayCall s (w.devices name) call
  pub runs : Run least call (w.devices name) words acts halt
  pub over : AreServed w.server acts fates

-- the first acts of such a call, with their fates: the device is stopped behind them
pub record IsFrontOf (w : World) (s : Ideal) (name : Bytes) (least : ℕ) (call : Call) (words : ChaCha) (front : List Act) (met : List Fate) : Type 0 where
  pub later : List Act
  pub others : List Fate
  pub halt : Halt
  pub called : IsCallOf w s name least call words (front ++ later) (met ++ others) halt
  pub over : AreServed w.server front met

-- the server's first commit, where there is no store; a call, whole or stopped; or a request that was made, late or again
abbrev pub MayHappen : Bytes → World → Ideal → Line → Type 0
MayHappen secret w s (opens changes stands) = ((store : StoreRow) → ¬ (HasStore w.server store)) × IsFirst secret changes
MayHappen secret w s (calls name least call words acts fates halt stands) = IsCallOf w s name least call words acts fates halt
MayHappen secret w s (stops name least call words front met) = IsFrontOf w s name least call words front met
MayHappen secret w s (again name r fate) = IsAgain w name r fate

-- ---- one after another

-- each comes in its turn, as it may: wherever those before it lead
abbrev pub InTurn : Bytes → (World → Ideal → Line → Type 0) → World → Ideal → List Line → Type 0
InTurn secret May w s [] = Unit {0}
InTurn secret May w s (line ∷ lines) = May w s line × ((x : LeadsLine secret w s line) → InTurn secret May x.next (end_from s x.moves) lines)

abbrev pub MayHappenAll : Bytes → World → Ideal → List Line → Type 0
MayHappenAll secret w s lines = InTurn secret (MayHappen secret) w s lines

-- each leads to where the next one begins, and the last one there; the moves are those of all
abbrev pub ByLines : Bytes → World → Ideal → List Line → List Move → World → Type 0
ByLines secret w s [] moves next = (moves ≡ []) × (next ≡ w)
ByLines secret w s (line ∷ lines) moves next =
    (x : LeadsLine secret w s line) × (later : List Move) × (moves ≡ x.moves ++ later) × ByLines secret x.next (end_from s x.moves) lines later next

-- the steps of all are a trace; its moves are legal, and the invariant holds behind it, with the rows that the lines leave and the requests that they made
pub record AllLead (secret : Bytes) (w : World) (s : Ideal) (lines : List Line) : Type 0 where
  pub steps : List Happens
  pub of_lines : AreStepsOf lines steps
  pub moves : List Move
  pub next : World
  pub by_lines : ByLines secret w s lines moves next
  pub goes : Trace secret w s steps moves next
  pub keeps : KeptBy secret next s moves
  pub server_is : next.server ≡ server_behind_all w.server lines
  pub devices_are : (name : Bytes) → next.devices name ≡ device_behind_all name (w.devices name) lines
  pub made_is : next.made ≡ made_behind w.made steps

-- ---- the laws

-- whatever may happen leads on
abbrev pub EachLeads : Type 0
EachLeads = (secret : Bytes) (w : World) (s : Ideal) (line : Line) → TokensDiffer secret → Holds secret w s → MayHappen secret w s line → LeadsLine secret w s line

-- wherever a line leads, its moves are legal, and the invariant holds
abbrev pub EachKeeps : Type 0
EachKeeps = (secret : Bytes) (w : World) (s : Ideal) (line : Line) → TokensDiffer secret → Holds secret w s → (x : LeadsLine secret w s line)
    → KeptBy secret x.next s x.moves

-- from a world in which the invariant holds
abbrev pub AllGo : Type 0
AllGo = (secret : Bytes) (w : World) (s : Ideal) (lines : List Line) → TokensDiffer secret → Holds secret w s → MayHappenAll secret w s lines → AllLead secret w s lines

-- and from the beginning on
abbrev pub AllKeep : Type 0
AllKeep = (secret : Bytes) (lines : List Line) → TokensDiffer secret → MayHappenAll secret at_first empty lines
    → (x : AllLead secret at_first empty lines) × Legal x.moves × Holds secret x.next (end x.moves)

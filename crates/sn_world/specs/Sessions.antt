-- What devices and a server do, one thing after another: the server's first commit, calls of devices, whole or stopped, and requests that are delivered
-- late or again.
use Rattle.std.specs.Prelude.{◌≡◌, ℕ, List, [], ◌∷◌, ◌++◌, Bool, true, false, Option, if◌then◌else◌}
use Rattle.std.specs.Str.{bytes_eq}
use Rattle.rand_chacha.specs.ChaCha.{ChaCha}
use Rattle.sn_account.specs.Lookups.{HasStore}
use Rattle.sn_device.specs.Asking.{unheard}
use Rattle.sn_device.specs.Runs.{Act, Call, Halt, Run, answered, broken, content, delete, edit, list, passwd, put, refused, register, rows_done, sign_in, sync}
use Rattle.sn_laws.specs.Lookups.{Bytes, empty}
use Rattle.sn_laws.specs.Runs.{Legal, end, end_from}
use Rattle.sn_laws.specs.declared.ideal.Ideal.{Ideal}
use Rattle.sn_laws.specs.declared.moves.Move.{Move}
use Rattle.sn_rows.specs.Table.{Rows, rows_after}
use Rattle.sn_rows.specs.declared.change.Change.{Change}
use Rattle.sn_rows.specs.declared.server_rows.StoreRow.{StoreRow}
use Rattle.sn_string.specs.declared.params.KeySet.{KeySet}
use Rattle.sn_sync.specs.declared.request.Request.{Request}
use Rattle.sn_world.specs.Calls.{AreServed, BeginsBy, Fate, IsOnlyOf, IsServed, call_steps, fate_steps, rows_behind, rows_served}
use Rattle.sn_world.specs.First.{IsFirst}
use Rattle.sn_world.specs.Happens.{Happens, Trace, commits, makes, serves, starts}
use Rattle.sn_world.specs.Holds.{Holds, TokensDiffer}
use Rattle.sn_world.specs.Plain.{HoldsPlain, KeptPlain}
use Rattle.sn_world.specs.World.{IsMade, Made, World, at_first}

-- ---- what happens

pub data Line : Type 0 where
  -- the server's first commit, and whether it stands
  opens : List Change → Bool → Line
  -- a device of this name makes a call, with this least cost and from these words: its acts, the fates of its requests, how it ends, and whether the
  -- commit stands in which its disk fails
  calls : Bytes → ℕ → Call → ChaCha → List Act → List Fate → Halt → Bool → Line
  -- it is stopped behind these acts of a call
  stops : Bytes → ℕ → Call → ChaCha → List Act → List Fate → Line
  -- a request that this device made is delivered late or again, and nobody hears the answer
  again : Bytes → Request → Fate → Line

-- a sign-in needs that no second password was found; no password is changed yet
abbrev pub MayAsk : Ideal → Call → Type 0
MayAsk s (register identifier password cost) = Unit {0}
MayAsk s (sign_in identifier password) = IsOnlyOf s identifier password
MayAsk s (put kind text) = Unit {0}
MayAsk s (edit uuid text) = Unit {0}
MayAsk s (delete uuid) = Unit {0}
MayAsk s list = Unit {0}
MayAsk s (content uuid) = Unit {0}
MayAsk s sync = Unit {0}
MayAsk s (passwd password cost) = ⊥

-- a whole call of the device's rows as they stand, over the server's as they stand
pub record IsCalled (w : World) (s : Ideal) (name : Bytes) (least : ℕ) (call : Call) (words : ChaCha) (acts : List Act) (fates : List Fate) (halt : Halt) : Type 0 where
  pub may : MayAsk s call
  pub runs : Run least call (w.devices name) words acts halt
  pub over : AreServed w.server acts fates

-- the first acts of such a call, with their fates
pub record IsStopped (w : World) (s : Ideal) (name : Bytes) (least : ℕ) (call : Call) (words : ChaCha) (front : List Act) (met : List Fate) : Type 0 where
  pub later : List Act
  pub others : List Fate
  pub halt : Halt
  pub called : IsCalled w s name least call words (front ++ later) (met ++ others) halt
  pub over : AreServed w.server front met

-- one of the requests that were made, with a fate over the server's rows as they stand
pub record IsAgain (w : World) (name : Bytes) (r : Request) (fate : Fate) : Type 0 where
  pub begins : Option KeySet
  pub made : IsMade w (record { device = name; request = r; begins = begins })
  pub over : IsServed w.server r unheard fate

abbrev pub MayCome : Bytes → World → Ideal → Line → Type 0
MayCome secret w s (opens changes stands) = ((store : StoreRow) → ¬ (HasStore w.server store)) × IsFirst secret changes
MayCome secret w s (calls name least call words acts fates halt stands) = IsCalled w s name least call words acts fates halt
MayCome secret w s (stops name least call words front met) = IsStopped w s name least call words front met
MayCome secret w s (again name r fate) = IsAgain w name r fate

-- ---- its steps, and the rows behind it

-- with the commit in which a disk fails
abbrev pub with_end : Bytes → Halt → Bool → List Happens → List Happens
with_end name (answered given left) stands steps = steps
with_end name (refused why) stands steps = steps
with_end name (broken what changes) stands steps = steps ++ commits name what changes stands ∷ []

-- each request among them would begin the set that is said of it
abbrev pub line_steps : (Request → Option KeySet) → Line → List Happens
line_steps begins (opens changes stands) = starts changes stands ∷ []
line_steps begins (calls name least call words acts fates halt stands) = with_end name halt stands (call_steps name begins acts fates)
line_steps begins (stops name least call words front met) = call_steps name begins front met
line_steps begins (again name r fate) = fate_steps (record { device = name; request = r; begins = begins r }) fate

-- the server's rows
abbrev pub server_behind : Rows → Line → Rows
server_behind server (opens changes true) = rows_after server changes
server_behind server (opens changes false) = server
server_behind server (calls name least call words acts fates halt stands) = rows_served server fates
server_behind server (stops name least call words front met) = rows_served server met
server_behind server (again name r fate) = rows_behind server fate

abbrev pub rows_ended : Halt → Bool → Rows → Rows
rows_ended (answered given left) stands rows = rows
rows_ended (refused why) stands rows = rows
rows_ended (broken what changes) true rows = rows_after rows changes
rows_ended (broken what changes) false rows = rows

-- the rows of the device of this name
abbrev pub device_behind : Bytes → Rows → Line → Rows
device_behind own rows (opens changes stands) = rows
device_behind own rows (calls name least call words acts fates halt stands) =
    if bytes_eq own name then rows_ended halt stands (rows_done rows acts) else rows
device_behind own rows (stops name least call words front met) = if bytes_eq own name then rows_done rows front else rows
device_behind own rows (again name r fate) = rows

-- the requests that were made
abbrev pub made_behind : List Made → List Happens → List Made
made_behind made [] = made
made_behind made (starts changes stands ∷ steps) = made_behind made steps
made_behind made (makes m ∷ steps) = made_behind (m ∷ made) steps
made_behind made (serves m now changes given stands ∷ steps) = made_behind made steps
made_behind made (commits name what changes stands ∷ steps) = made_behind made steps

-- the sets that the requests of the line would begin: by its call; of a request that comes again, the one of that request
abbrev pub BeginsLine : World → Line → (Request → Option KeySet) → Type 0
BeginsLine w (opens changes stands) begins = Unit {0}
BeginsLine w (calls name least call words acts fates halt stands) begins = BeginsBy (w.devices name) call begins
BeginsLine w (stops name least call words front met) begins = BeginsBy (w.devices name) call begins
BeginsLine w (again name r fate) begins = IsMade w (record { device = name; request = r; begins = begins r })

-- its steps can be made one after another, and leave these
pub record LeadsLine (secret : Bytes) (w : World) (s : Ideal) (line : Line) : Type 0 where
  pub begins : Request → Option KeySet
  pub of_line : BeginsLine w line begins
  pub moves : List Move
  pub next : World
  pub goes : Trace secret w s (line_steps begins line) moves next
  pub server_is : next.server ≡ server_behind w.server line
  pub devices_are : (name : Bytes) → next.devices name ≡ device_behind name (w.devices name) line
  pub made_is : next.made ≡ made_behind w.made (line_steps begins line)

-- ---- one after another

-- each may come wherever those before it lead
abbrev pub MayFollow : Bytes → World → Ideal → List Line → Type 0
MayFollow secret w s [] = Unit {0}
MayFollow secret w s (line ∷ lines) = MayCome secret w s line × ((x : LeadsLine secret w s line) → MayFollow secret x.next (end_from s x.moves) lines)

abbrev pub AreStepsOf : List Line → List Happens → Type 0
AreStepsOf [] steps = steps ≡ []
AreStepsOf (line ∷ lines) steps =
    (begins : Request → Option KeySet) × (others : List Happens) × (steps ≡ line_steps begins line ++ others) × AreStepsOf lines others

abbrev pub server_behind_all : Rows → List Line → Rows
server_behind_all server [] = server
server_behind_all server (line ∷ lines) = server_behind_all (server_behind server line) lines

abbrev pub device_behind_all : Bytes → Rows → List Line → Rows
device_behind_all own rows [] = rows
device_behind_all own rows (line ∷ lines) = device_behind_all own (device_behind own rows line) lines

-- the steps of all are a trace; its moves are legal, and the invariant holds behind it, in a world in which no password is changed, with the rows that the
-- lines leave
pub record LinesLead (secret : Bytes) (w : World) (s : Ideal) (lines : List Line) : Type 0 where
  pub steps : List Happens
  pub of_lines : AreStepsOf lines steps
  pub moves : List Move
  pub next : World
  pub goes : Trace secret w s steps moves next
  pub keeps : KeptPlain secret next s moves
  pub server_is : next.server ≡ server_behind_all w.server lines
  pub devices_are : (name : Bytes) → next.devices name ≡ device_behind_all name (w.devices name) lines

-- ---- the laws

-- a request that was made leads on with the set that it would begin
abbrev pub AgainLeads : Type 0
AgainLeads = (secret : Bytes) (w : World) (s : Ideal) (m : Made) (fate : Fate) → Holds secret w s → IsMade w m → IsServed w.server m.request unheard fate
    → (x : LeadsLine secret w s (again m.device m.request fate)) × (x.begins m.request ≡ m.begins)

-- from a world in which the invariant holds, and no password is changed
abbrev pub LinesGo : Type 0
LinesGo = (secret : Bytes) (w : World) (s : Ideal) (lines : List Line)
    → TokensDiffer secret → HoldsPlain secret w s → MayFollow secret w s lines → LinesLead secret w s lines

-- and from the beginning on
abbrev pub LinesKeep : Type 0
LinesKeep = (secret : Bytes) (lines : List Line) → TokensDiffer secret → MayFollow secret at_first empty lines
    → (x : LinesLead secret at_first empty lines) × Legal x.moves × HoldsPlain secret x.next (end x.moves)

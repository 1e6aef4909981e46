-- Calls over a server that answers each request that is delivered by its rule: nothing is asked of the request, since it is within its bounds.
use Rattle.std.specs.Prelude.{◌≡◌, ℕ, List, [], ◌∷◌, ◌++◌, Option}
use Rattle.rand_chacha.specs.ChaCha.{ChaCha}
use Rattle.sn_account.specs.Lookups.{HasStore}
use Rattle.sn_account.specs.Rule.{Rule}
use Rattle.sn_device.specs.Asking.{Reply, unheard}
use Rattle.sn_device.specs.Runs.{Act, Call, Given, Halt, Run, answered, asked, commits as committed, content, delete, edit, list, passwd, put, register, rows_done, sign_in, sync}
use Rattle.sn_laws.specs.Each.{Each}
use Rattle.sn_laws.specs.Lookups.{Bytes, empty}
use Rattle.sn_laws.specs.Runs.{Legal, end, end_from}
use Rattle.sn_laws.specs.declared.ideal.Ideal.{Ideal}
use Rattle.sn_laws.specs.declared.moves.Move.{Move}
use Rattle.sn_rows.specs.Table.{Rows}
use Rattle.sn_rows.specs.declared.server_rows.StoreRow.{StoreRow}
use Rattle.sn_string.specs.declared.params.KeySet.{KeySet}
use Rattle.sn_sync.specs.Fits.{FitsRequest}
use Rattle.sn_sync.specs.declared.request.Request.{Request}
use Rattle.sn_world.specs.Calls.{AreServed, ComesBack, Fate, GoesCall, IsUnheard, begins_none, call_steps, crashed, rows_behind, rows_served, served, undelivered}
use Rattle.sn_world.specs.First.{IsFirst}
use Rattle.sn_world.specs.Fitting.{FitsCall, FitsUuids}
use Rattle.sn_world.specs.Happens.{Does, Happens, Trace}
use Rattle.sn_world.specs.Holds.{Holds, TokensDiffer}
use Rattle.sn_world.specs.Plain.{AsksNoSet, HoldsPlain}
use Rattle.sn_world.specs.Sessions.{LeadsLine, Line, LinesLead, MayAsk, again, calls, opens, stops}
use Rattle.sn_world.specs.Synced.{LeadsSynced}
use Rattle.sn_world.specs.World.{IsMade, World, at_first}

-- ---- what becomes of a request

-- the server answers it by its rule, over these rows
abbrev pub IsServedBy : Rows → Request → Reply → Fate → Type 0
IsServedBy server r reply undelivered = IsUnheard reply
IsServedBy server r reply (served now changes given arrives) = Rule server r now changes given × ComesBack arrives given reply
IsServedBy server r reply (crashed now changes given) = Rule server r now changes given × IsUnheard reply

-- each request of the acts, in order
abbrev pub AreServedBy : Rows → List Act → List Fate → Type 0
AreServedBy server [] fates = fates ≡ []
AreServedBy server (committed what changes ∷ acts) fates = AreServedBy server acts fates
AreServedBy server (asked r reply ∷ acts) [] = ⊥
AreServedBy server (asked r reply ∷ acts) (fate ∷ fates) = IsServedBy server r reply fate × AreServedBy (rows_behind server fate) acts fates

-- no password is changed yet
abbrev pub KeepsPassword : Call → Type 0
KeepsPassword (register identifier password cost) = Unit {0}
KeepsPassword (sign_in identifier password) = Unit {0}
KeepsPassword (put kind text) = Unit {0}
KeepsPassword (edit uuid text) = Unit {0}
KeepsPassword (delete uuid) = Unit {0}
KeepsPassword list = Unit {0}
KeepsPassword (content uuid) = Unit {0}
KeepsPassword sync = Unit {0}
KeepsPassword (passwd password cost) = ⊥

-- ---- worlds

-- the uuid of each item of each device has 16 bytes
abbrev pub FitsDevices : World → Type 0
FitsDevices w = (name : Bytes) → FitsUuids (w.devices name)

-- and each request that was made is within the bounds of one that is read
pub record FitsWorld (w : World) : Type 0 where
  pub devices : FitsDevices w
  pub made : Each (λ m. FitsRequest m.request) w.made

-- so it is before anything happened
abbrev pub FirstFits : Type 0
FirstFits = FitsWorld at_first

-- each step leaves uuids so, in a world in which the invariant holds
abbrev pub DevicesFit : Type 0
DevicesFit = (secret : Bytes) (w next : World) (s : Ideal) (step : Happens) → Holds secret w s → FitsDevices w → Does secret w s step next → FitsDevices next

-- and so does any list of them
abbrev pub TracesFit : Type 0
TracesFit = (secret : Bytes) (w next : World) (s : Ideal) (steps : List Happens) (moves : List Move)
    → TokensDiffer secret → Holds secret w s → FitsDevices w → Trace secret w s steps moves next → FitsDevices next

-- there each request of a call is served, where the server answers it by its rule, and no set is asked for
abbrev pub CallsFit : Type 0
CallsFit = (secret : Bytes) (w : World) (s : Ideal) (name : Bytes) (least : ℕ) (call : Call) (words : ChaCha) (acts : List Act) (fates : List Fate) (halt : Halt)
    → Holds secret w s → AsksNoSet (w.devices name) → FitsUuids (w.devices name) → FitsCall call → KeepsPassword call
    → Run least call (w.devices name) words acts halt
    → AreServedBy w.server acts fates → AreServed w.server acts fates

-- so the acts of any such call, with these fates, are steps that leave the rows which the acts and the fates leave
abbrev pub CallsGoBy : Type 0
CallsGoBy = (secret : Bytes) (w : World) (s : Ideal) (name : Bytes) (least : ℕ) (call : Call) (words : ChaCha) (acts : List Act) (fates : List Fate) (halt : Halt)
    → TokensDiffer secret → Holds secret w s → AsksNoSet (w.devices name) → FitsUuids (w.devices name) → FitsCall call → MayAsk s call
    → Run least call (w.devices name) words acts halt
    → AreServedBy w.server acts fates → GoesCall secret w s name call acts fates halt

-- and a sync that is answered leaves its device with just the items of its account
abbrev pub SyncsEndBy : Type 0
SyncsEndBy = (secret : Bytes) (w : World) (s : Ideal) (name : Bytes) (least : ℕ) (words left : ChaCha) (acts : List Act) (fates : List Fate) (given : Given)
    → TokensDiffer secret → Holds secret w s → AsksNoSet (w.devices name) → FitsUuids (w.devices name)
    → Run least sync (w.devices name) words acts (answered given left)
    → AreServedBy w.server acts fates
    → LeadsSynced secret w s name (call_steps name begins_none acts fates) (rows_served w.server fates) (rows_done (w.devices name) acts)

-- ---- what happens, one thing after another

-- a whole call of the device's rows as they stand
pub record IsCalledBy (w : World) (s : Ideal) (name : Bytes) (least : ℕ) (call : Call) (words : ChaCha) (acts : List Act) (fates : List Fate) (halt : Halt)
    : Type 0 where
  pub fits : FitsCall call
  pub may : MayAsk s call
  pub runs : Run least call (w.devices name) words acts halt
  pub over : AreServedBy w.server acts fates

-- the first acts of such a call, with their fates
pub record IsStoppedBy (w : World) (s : Ideal) (name : Bytes) (least : ℕ) (call : Call) (words : ChaCha) (front : List Act) (met : List Fate) : Type 0 where
  pub later : List Act
  pub others : List Fate
  pub halt : Halt
  pub called : IsCalledBy w s name least call words (front ++ later) (met ++ others) halt
  pub over : AreServedBy w.server front met

-- one of the requests that were made, with a fate over the server's rows as they stand
pub record IsAgainBy (w : World) (name : Bytes) (r : Request) (fate : Fate) : Type 0 where
  pub begins : Option KeySet
  pub made : IsMade w (record { device = name; request = r; begins = begins })
  pub over : IsServedBy w.server r unheard fate

abbrev pub MayComeBy : Bytes → World → Ideal → Line → Type 0
MayComeBy secret w s (opens changes stands) = ((store : StoreRow) → ¬ (HasStore w.server store)) × IsFirst secret changes
MayComeBy secret w s (calls name least call words acts fates halt stands) = IsCalledBy w s name least call words acts fates halt
MayComeBy secret w s (stops name least call words front met) = IsStoppedBy w s name least call words front met
MayComeBy secret w s (again name r fate) = IsAgainBy w name r fate

-- each may come wherever those before it lead
abbrev pub MayFollowBy : Bytes → World → Ideal → List Line → Type 0
MayFollowBy secret w s [] = Unit {0}
MayFollowBy secret w s (line ∷ lines) =
    MayComeBy secret w s line × ((x : LeadsLine secret w s line) → MayFollowBy secret x.next (end_from s x.moves) lines)

-- these are steps, from a world in which the invariant holds, and no password is changed
abbrev pub LinesGoBy : Type 0
LinesGoBy = (secret : Bytes) (w : World) (s : Ideal) (lines : List Line) → TokensDiffer secret → HoldsPlain secret w s → FitsWorld w → MayFollowBy secret w s lines
    → LinesLead secret w s lines

-- and from the beginning on
abbrev pub LinesKeepBy : Type 0
LinesKeepBy = (secret : Bytes) (lines : List Line) → TokensDiffer secret → MayFollowBy secret at_first empty lines
    → (x : LinesLead secret at_first empty lines) × Legal x.moves × HoldsPlain secret x.next (end x.moves)

-- A whole call of a device as steps of the world, whatever is lost on the way.
use Rattle.std.specs.Prelude.{◌≡◌, ◌⊎◌, ℕ, List, [], ◌∷◌, ◌++◌, Bool, true, false, Option, Some, None}
use Rattle.sn_account.specs.Rule.{Rule}
use Rattle.sn_device.specs.Asking.{Reply, lost, said, unheard, unread}
use Rattle.sn_device.specs.Runs.{Act, Call, Halt, Run, answered, asked, broken, commits as committed, content, delete, edit, list, passwd, put, refused, register, rows_done, sign_in, sync}
use Rattle.sn_device.specs.States.{HasOwner, IsInSlot}
use Rattle.sn_keys.specs.Keys.{AreKeysOf}
use Rattle.sn_laws.specs.Lookups.{Bytes}
use Rattle.sn_laws.specs.declared.ideal.Ideal.{Ideal}
use Rattle.sn_laws.specs.declared.moves.Move.{Move}
use Rattle.rand_chacha.specs.ChaCha.{ChaCha}
use Rattle.sn_rows.specs.Table.{Rows, rows_after}
use Rattle.sn_rows.specs.declared.change.Change.{Change}
use Rattle.sn_rows.specs.declared.device_rows.OwnerRow.{OwnerRow}
use Rattle.sn_rows.specs.declared.key.Slot.TheVariants.{Asked}
use Rattle.sn_string.specs.declared.params.KeySet.{KeySet}
use Rattle.sn_sync.specs.Fits.{FitsRequest}
use Rattle.sn_sync.specs.declared.answer.Answer.{Answer}
use Rattle.sn_sync.specs.declared.request.Request.{Request}
use Rattle.sn_world.specs.Happens.{Happens, Trace, commits, makes, serves}
use Rattle.sn_world.specs.Holds.{Holds, TokensDiffer}
use Rattle.sn_world.specs.Laws.{IsOnlySet, KeptBy}
use Rattle.sn_world.specs.Plain.{AsksNoSet}
use Rattle.sn_world.specs.World.{Made, World}

-- ---- what becomes of a request

pub data Fate : Type 0 where
  -- it never comes to the server
  undelivered : Fate
  -- it is served at this time, with these changes and this answer, and the commit stands; then the answer arrives, or it is lost
  served : ℕ → List Change → Answer → Bool → Fate
  -- it is served so, and a crash takes the commit away: no answer arrives
  crashed : ℕ → List Change → Answer → Fate

-- no answer is heard: the link failed, or bytes came that are none, or memory was wanting
abbrev pub IsUnheard : Reply → Type 0
IsUnheard lost = Unit {0}
IsUnheard unheard = Unit {0}
IsUnheard (unread at) = Unit {0}
IsUnheard (said given) = ⊥

-- the answer comes back where it arrives
abbrev pub ComesBack : Bool → Answer → Reply → Type 0
ComesBack true given reply = reply ≡ said given
ComesBack false given reply = IsUnheard reply

-- the server answers by its rule, over these rows, a request within the bounds of one that is read
abbrev pub IsServed : Rows → Request → Reply → Fate → Type 0
IsServed server r reply undelivered = IsUnheard reply
IsServed server r reply (served now changes given arrives) = FitsRequest r × Rule server r now changes given × ComesBack arrives given reply
IsServed server r reply (crashed now changes given) = FitsRequest r × Rule server r now changes given × IsUnheard reply

-- the server's rows behind it
abbrev pub rows_behind : Rows → Fate → Rows
rows_behind server undelivered = server
rows_behind server (served now changes given arrives) = rows_after server changes
rows_behind server (crashed now changes given) = server

-- and behind several, in order
abbrev pub rows_served : Rows → List Fate → Rows
rows_served server [] = server
rows_served server (fate ∷ fates) = rows_served (rows_behind server fate) fates

-- each request of the acts has one of these fates, in order, over the rows that those before it have left
abbrev pub AreServed : Rows → List Act → List Fate → Type 0
AreServed server [] fates = fates ≡ []
AreServed server (committed what changes ∷ acts) fates = AreServed server acts fates
AreServed server (asked r reply ∷ acts) [] = ⊥
AreServed server (asked r reply ∷ acts) (fate ∷ fates) = IsServed server r reply fate × AreServed (rows_behind server fate) acts fates

-- ---- the steps

-- of a request that was made
abbrev pub fate_steps : Made → Fate → List Happens
fate_steps m undelivered = []
fate_steps m (served now changes given arrives) = serves m now changes given true ∷ []
fate_steps m (crashed now changes given) = serves m now changes given false ∷ []

-- no request begins a set
abbrev pub begins_none : Request → Option KeySet
begins_none r = None

-- of all acts of a device; each request among them would begin the set that is said of it
abbrev pub call_steps : Bytes → (Request → Option KeySet) → List Act → List Fate → List Happens
call_steps name begins [] fates = []
call_steps name begins (committed what changes ∷ acts) fates = commits name what changes true ∷ call_steps name begins acts fates
call_steps name begins (asked r reply ∷ acts) [] = []
call_steps name begins (asked r reply ∷ acts) (fate ∷ fates) =
    makes (record { device = name; request = r; begins = begins r })
    ∷ fate_steps (record { device = name; request = r; begins = begins r }) fate ++ call_steps name begins acts fates

-- ---- where they lead

-- the steps can be made one after another, and leave the server and the device these rows
pub record Leads (secret : Bytes) (w : World) (s : Ideal) (name : Bytes) (steps : List Happens) (server device : Rows) : Type 0 where
  pub moves : List Move
  pub next : World
  pub goes : Trace secret w s steps moves next
  pub server_is : next.server ≡ server
  pub device_is : next.devices name ≡ device

-- where the disk fails in a commit, both with that commit and without it
abbrev pub LeadsTo : Bytes → World → Ideal → Bytes → List Happens → Rows → Rows → Halt → Type 0
LeadsTo secret w s name steps server device (answered given left) = Leads secret w s name steps server device
LeadsTo secret w s name steps server device (refused why) = Leads secret w s name steps server device
LeadsTo secret w s name steps server device (broken what changes) =
    Leads secret w s name (steps ++ commits name what changes true ∷ []) server (rows_after device changes)
    × Leads secret w s name (steps ++ commits name what changes false ∷ []) server device

-- ---- the sets that a call's requests would begin

-- the device's rows keep this set as asked for
abbrev pub IsAskedFor : Rows → KeySet → Type 0
IsAskedFor device set = (owner : OwnerRow) × HasOwner device owner × IsInSlot device owner.identifier Asked (Some set)

-- a registration the keys of its password; a change of password these too, or the set that was asked for before; a sync that set; no other call begins one
abbrev pub MayBeginBy : Rows → Call → KeySet → Type 0
MayBeginBy device (register identifier password cost) set = AreKeysOf password set.params set
MayBeginBy device (sign_in identifier password) set = ⊥
MayBeginBy device (put kind text) set = ⊥
MayBeginBy device (edit uuid text) set = ⊥
MayBeginBy device (delete uuid) set = ⊥
MayBeginBy device list set = ⊥
MayBeginBy device (content uuid) set = ⊥
MayBeginBy device sync set = IsAskedFor device set
MayBeginBy device (passwd password cost) set = AreKeysOf password set.params set ⊎ IsAskedFor device set

abbrev pub IsNoneOr : (KeySet → Type 0) → Option KeySet → Type 0
IsNoneOr P None = Unit {0}
IsNoneOr P (Some set) = P set

-- each request begins none, or such a set
abbrev pub BeginsBy : Rows → Call → (Request → Option KeySet) → Type 0
BeginsBy device call begins = (r : Request) → IsNoneOr (MayBeginBy device call) (begins r)

-- the call's acts, with these fates of its requests, are steps that leave the rows which the acts and the fates leave
pub record GoesCall (secret : Bytes) (w : World) (s : Ideal) (name : Bytes) (call : Call) (acts : List Act) (fates : List Fate) (halt : Halt) : Type 0 where
  pub begins : Request → Option KeySet
  pub of_call : BeginsBy (w.devices name) call begins
  pub leads : LeadsTo secret w s name (call_steps name begins acts fates) (rows_served w.server fates) (rows_done (w.devices name) acts) halt

-- ---- the laws

-- wherever steps lead from a world in which the invariant holds, their moves are legal and it holds again: so another call may follow
abbrev pub LeadsKeep : Type 0
LeadsKeep = (secret : Bytes) (w : World) (s : Ideal) (name : Bytes) (steps : List Happens) (server device : Rows)
    → TokensDiffer secret → Holds secret w s → (x : Leads secret w s name steps server device) → KeptBy secret x.next s x.moves

-- a device may be stopped behind any act of a call: its first acts alone, with the fates of their requests, are such steps too
abbrev pub FrontsGo : Type 0
FrontsGo = (secret : Bytes) (w : World) (s : Ideal) (name : Bytes) (begins : Request → Option KeySet) (front later : List Act) (fates : List Fate)
    (last : List Happens) (server device : Rows) → AreServed w.server (front ++ later) fates
    → Leads secret w s name (call_steps name begins (front ++ later) fates ++ last) server device
    → (met : List Fate) × (others : List Fate) × (fates ≡ met ++ others) × AreServed w.server front met
    × Leads secret w s name (call_steps name begins front met) (rows_served w.server met) (rows_done (w.devices name) front)

-- a call that asks a server for nothing
abbrev pub AsksNothing : Call → Type 0
AsksNothing (register identifier password cost) = ⊥
AsksNothing (sign_in identifier password) = ⊥
AsksNothing (put kind text) = Unit {0}
AsksNothing (edit uuid text) = Unit {0}
AsksNothing (delete uuid) = Unit {0}
AsksNothing list = Unit {0}
AsksNothing (content uuid) = Unit {0}
AsksNothing sync = ⊥
AsksNothing (passwd password cost) = ⊥

-- whatever such a call does
abbrev pub CallsGo : Type 0
CallsGo = (secret : Bytes) (w : World) (s : Ideal) (name : Bytes) (least : ℕ) (call : Call) (words : ChaCha) (acts : List Act) (fates : List Fate) (halt : Halt)
    → TokensDiffer secret → Holds secret w s → AsksNothing call → Run least call (w.devices name) words acts halt → AreServed w.server acts fates
    → GoesCall secret w s name call acts fates halt

-- whatever a sync does on a device that asks for no set, and whichever of its requests and answers are lost
abbrev pub SyncsGo : Type 0
SyncsGo = (secret : Bytes) (w : World) (s : Ideal) (name : Bytes) (least : ℕ) (words : ChaCha) (acts : List Act) (fates : List Fate) (halt : Halt)
    → TokensDiffer secret → Holds secret w s → AsksNoSet (w.devices name) → Run least sync (w.devices name) words acts halt → AreServed w.server acts fates
    → GoesCall secret w s name sync acts fates halt

-- whatever a registration does
abbrev pub RegistersGo : Type 0
RegistersGo = (secret : Bytes) (w : World) (s : Ideal) (name : Bytes) (least : ℕ) (identifier password : Bytes) (cost : ℕ) (words : ChaCha) (acts : List Act)
    (fates : List Fate) (halt : Halt) → TokensDiffer secret → Holds secret w s → Run least (register identifier password cost) (w.devices name) words acts halt
    → AreServed w.server acts fates → GoesCall secret w s name (register identifier password cost) acts fates halt

-- of an identifier's sets, none that is the keys of this password has the parameters and the check value of the account's last one, but that itself
abbrev pub IsOnlyOf : Ideal → Bytes → Bytes → Type 0
IsOnlyOf s identifier password = (set : KeySet) → AreKeysOf password set.params set → set.params.identifier ≡ identifier → IsOnlySet s set

-- whatever a sign-in does, where no second password was found that has the check value of the first
abbrev pub SignInsGo : Type 0
SignInsGo = (secret : Bytes) (w : World) (s : Ideal) (name : Bytes) (least : ℕ) (identifier password : Bytes) (words : ChaCha) (acts : List Act)
    (fates : List Fate) (halt : Halt) → TokensDiffer secret → Holds secret w s → IsOnlyOf s identifier password
    → Run least (sign_in identifier password) (w.devices name) words acts halt → AreServed w.server acts fates
    → GoesCall secret w s name (sign_in identifier password) acts fates halt

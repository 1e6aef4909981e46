-- What holds between the lines of a script, and what a line makes of it. Nothing above the run speaks of it.
use Rattle.std.specs.Prelude.{◌≡◌, ◌≢◌, ℕ, ◌+◌, ◌≤◌, List, [], ◌∷◌, ◌++◌, length, Option, Some, None, true}
use Rattle.std.specs.List.{AllZip}
use Rattle.rand_chacha.specs.ChaCha.{ChaCha}
use Rattle.sn_device.specs.Runs.{Act, Call, Halt}
use Rattle.sn_course.specs.Stages.{Stage, Reported, made_by, past, reporting, start}
use Rattle.sn_course.specs.Fits.{Called, EndsSo, EndsWell, Fits, HappensAs, ShowsAs, puts_item}
use Rattle.sn_course.specs.Headline.{Goes, IsPasswordOf, MayStand, OpensWith, Opens, PasswordsApart, Recounts, RunsApart, SecretOf, Slots, moves_in}
use Rattle.sn_course.specs.Laws.{Grow, settings_behind}
use Rattle.sn_course.specs.Lines.{device_of}
use Rattle.sn_course.specs.Settings.{AreFirst, words_of}
use Rattle.sn_course.specs.declared.settings.Settings.{Settings}
use Rattle.sn_events.specs.Slots.{device_slot, server_slot, slot_mark}
use Rattle.sn_events.specs.Standing.{Stands}
use Rattle.sn_events.specs.declared.ends.Ends.{Ends}
use Rattle.sn_items.specs.Draws.{drawn}
use Rattle.sn_journal.specs.declared.owner.Owner.TheVariants.{Device as DeviceOwner, Server as ServerOwner}
use Rattle.sn_laws.specs.Each.{One}
use Rattle.sn_laws.specs.Lookups.{Bytes}
use Rattle.sn_laws.specs.Runs.{Legal, end}
use Rattle.sn_laws.specs.declared.moves.Move.{Move}
use Rattle.sn_lines.specs.Fits.{FitsAll}
use Rattle.sn_lines.specs.Lines.{MayHappen}
use Rattle.sn_lines.specs.Passwords.{GivesOf, HoldsOf}
use Rattle.sn_report.specs.declared.report.Event.{Event}
use Rattle.sn_report.specs.declared.report.Last.{Last}
use Rattle.sn_row_map.specs.RowMaps.{row_in}
use Rattle.sn_rows.specs.Table.{no_rows}
use Rattle.sn_script.specs.declared.script.Line.{Line}
use Rattle.sn_script.specs.declared.script.Script.{Script}
use Rattle.sn_tail.specs.Shelves.{SlotReads}
use Rattle.sn_telling.specs.Calling.{IsCallingOf}
use Rattle.sn_telling.specs.declared.calling.Calling.{Calling}
use Rattle.sn_world.specs.Calls.{Fate}
use Rattle.sn_world.specs.Fitting.{FitsCall}
use Rattle.sn_world.specs.Holders.{AreHeld}
use Rattle.sn_world.specs.Holds.{TokensDiffer}
use Rattle.sn_world.specs.Sessions.{LeadsLine, calls}
use Rattle.sn_world.specs.World.{World}
use Rattle.sn_replay.specs.Keeping.{IsKeptOf, puts_of, requests_of}
use Rattle.sn_replay.specs.Lines.{reports}
pub use Rattle.sn_replay.specs.Lines.{IsReplayRefusal}
use Rattle.sn_replay.specs.Mirrored.{mirrored}
use Rattle.sn_replay.specs.declared.error.ReplayError.{ReplayError}
use Rattle.sn_replay.specs.declared.error.ReplayError.TheVariants as refusal
use Rattle.sn_replay.specs.declared.replaying.Replaying.{Replaying}
use Rattle.sn_replay.specs.declared.replaying.LineTold.{LineTold}
use Rattle.sn_replay.specs.declared.run.State.{State}
use Rattle.sn_replay.specs.declared.settings.Moment.{Moment}

-- ---- between two lines

abbrev pub ends_slots : Ends → Slots
ends_slots ends = record { server = server_slot ends; devices = λ name. device_slot ends name }

-- both ends, and what was seen of them, are as the stage has them
pub record IsAt (script : Script) (secret : Bytes) (replaying : Replaying) (c : Stage) : Type 0 where
  pub legal : Legal c.moves
  pub stands : Stands replaying.ends secret c.world (end c.moves)
  -- what devices ask is within the bounds of what is read; each set is of a password of the script; and a device holds each set that a last version carries
  pub fits : FitsAll c.world
  pub holds_of : HoldsOf (IsPasswordOf script) c.world (end c.moves)
  pub held : AreHeld (end c.moves)
  pub labels_are : replaying.seen.labels ≡ c.labels
  pub names_are : replaying.seen.names ≡ c.names
  -- a device that has begun nothing has no rows
  pub begun : (name : Bytes) → ¬ (One (λ n. n ≡ name) c.names) → c.world.devices name ≡ no_rows
  pub server_is : row_in replaying.seen.server ≡ c.world.server
  pub devices_are : (name : Bytes) → mirrored replaying.seen.devices name ≡ c.world.devices name
  pub requests_are : (name : Bytes) → AllZip IsKeptOf (made_by name c.world.made) (requests_of replaying.seen.requests name)
  pub marks_are : (name : Bytes) → c.marks name ≡ slot_mark (device_slot replaying.ends name)
  pub marks_read : (name : Bytes) → SlotReads (device_slot replaying.ends name) DeviceOwner (c.marks name) (c.world.devices name)

-- ---- the event of a line

-- it fits the line, the records grew, and the stage goes on behind it
pub record Tells (script : Script) (secret : Bytes) (replaying : Replaying) (c : Stage) (r : Reported) (told : LineTold) : Type 0 where
  pub next : World
  pub grow : Grow (ends_slots replaying.ends) (ends_slots told.replaying.ends)
  pub fits : Fits secret c r told.event next
  pub at : IsAt script secret told.replaying (past c r.asks told.event next)
  pub server_mark : told.event.server_mark ≡ slot_mark (server_slot told.replaying.ends)
  pub server_reads : SlotReads (server_slot told.replaying.ends) ServerOwner told.event.server_mark next.server

-- wherever the line of a call leads, it says one list of moves
abbrev pub SaysOneList : Bytes → Stage → Reported → Bytes → Call → List Act → List Fate → Halt → List Move → Type 0
SaysOneList secret c r name call acts fates halt moves =
    (other : LeadsLine secret c.world (end c.moves) (calls name 1 call (words_of r.settings r.number) acts fates halt true)) → other.moves ≡ moves

-- the line asks this device for this call: what the event of such a line is, whatever the call
pub record IsLineOf (script : Script) (secret : Bytes) (c : Stage) (r : Reported) (name : Bytes) (call : Call) (calling : Calling) : Type 0 where
  pub named : device_of r.asks ≡ Some name
  pub happens : (e : Event) (next : World) → Called secret c r name call e next → HappensAs r.asks secret c r e next
  pub shows : ShowsAs r.asks c []
  pub puts : puts_item r.asks ≡ puts_of calling
  pub fits : FitsCall call
  pub gives : GivesOf (IsPasswordOf script) call
  pub is : IsCallingOf (words_of r.settings r.number) call calling
  pub well : (acts : List Act) (fates : List Fate) (halt : Halt)
      → MayHappen secret c.world (end c.moves) (calls name 1 call (words_of r.settings r.number) acts fates halt true)
      → (leads : LeadsLine secret c.world (end c.moves) (calls name 1 call (words_of r.settings r.number) acts fates halt true))
      → SaysOneList secret c r name call acts fates halt leads.moves → (last : Last) → EndsSo halt last
      → EndsWell call name (end c.moves) (leads.next.devices name) (end (c.moves ++ leads.moves)) last

-- ---- the beginning

-- the server begins with a secret of these words
pub record BeginsAt (script : Script) (secret : Bytes) (words : ChaCha) (replaying : Replaying) : Type 0 where
  pub opened : World
  pub opens : Opens secret words opened
  pub at : IsAt script secret replaying (start opened)

pub record BeginsReplay (words : ChaCha) (replaying : Replaying) : Type 0 where
  pub secret : Bytes
  pub left : ChaCha
  pub drew : (secret, left) ≡ drawn 32 words
  pub begun : (script : Script) → TokensDiffer secret → BeginsAt script secret words replaying

-- the replay that goes on, or what it begins with
abbrev pub ReplayingOr : Option Replaying → Moment → Replaying → Type 0
ReplayingOr None at replaying = BeginsReplay (words_of at.settings at.number) replaying
ReplayingOr (Some before) at replaying = replaying ≡ before

-- ---- behind some lines

-- the events recount the lines that report, and all is as they leave it
pub record HasPlayed (script : Script) (secret : Bytes) (rs : List Reported) (replaying : Replaying) (events : List Event) : Type 0 where
  pub opened : World
  pub opens : OpensWith rs secret opened
  pub last : Stage
  pub recounts : Recounts (ends_slots replaying.ends) secret (start opened) rs events last
  pub at : IsAt script secret replaying last
  pub moves_are : moves_in events ≡ last.moves
  pub mark : last.server_mark ≡ slot_mark (server_slot replaying.ends)

-- a line behind these, where it reports
abbrev pub behind : Settings → List Line → Line → Reported
behind first lines l = record { number = 1 + length lines; settings = settings_behind first lines; asks = l }

-- wherever the first ones of these lines go by the first ones of these events, the passwords are apart
abbrev pub ApartAlong : Script → Bytes → List Reported → List Event → Type 0
ApartAlong script secret rs events = (before later : List Reported) (opened : World) (early more : List Event) (last : Stage) → rs ≡ before ++ later
    → events ≡ early ++ more → OpensWith rs secret opened → Goes secret (start opened) before early last → PasswordsApart script (moves_in early)

-- before the first line that reports nothing has begun
abbrev pub PlaysAs : Script → Bytes → List Reported → Option Replaying → List Event → Type 0
PlaysAs script secret rs None events = (rs ≡ []) × (events ≡ []) × (secret ≡ [])
PlaysAs script secret rs (Some replaying) events =
    (rs ≢ []) × SecretOf rs secret × (TokensDiffer secret → ApartAlong script secret rs events → HasPlayed script secret rs replaying events)

pub record IsPlayed (script : Script) (first : Settings) (lines : List Line) (state : State) : Type 0 where
  pub settings_are : state.settings ≡ settings_behind first lines
  pub cost : 1 ≤ state.settings.cost
  pub secret : Bytes
  pub plays : PlaysAs script secret (reporting 1 first lines) state.replaying state.events

-- from the first settings to the last line
abbrev pub HasPlayedAll : Script → State → Type 0
HasPlayedAll script state = (first : Settings) × AreFirst first × IsPlayed script first script.lines state

-- the line behind these may not come
pub record IsRefusedBehind (script : Script) (first : Settings) (lines : List Line) (l : Line) (number : ℕ) : Type 0 where
  pub reports_so : reports l ≡ true
  pub secret : Bytes
  pub secret_is : SecretOf (reporting 1 first lines ++ behind first lines l ∷ []) secret
  pub refused : TokensDiffer secret → RunsApart script secret (reporting 1 first lines ++ behind first lines l ∷ [])
      → (opened : World) × OpensWith (reporting 1 first lines ++ behind first lines l ∷ []) secret opened × (1 + length lines ≡ number)
      × ((events : List Event) × (last : Stage) × Goes secret (start opened) (reporting 1 first lines) events last × ¬ (MayStand last l))

abbrev pub IsRefusalBehind : Script → Settings → List Line → Line → ReplayError → Type 0
IsRefusalBehind script first lines l (refusal.NotAllowed number) = IsRefusedBehind script first lines l number
IsRefusalBehind script first lines l refusal.Memory = Unit {0}

-- the slots are those of the ends, where there are any
abbrev pub AreSlotsOf : Option Replaying → Slots → Type 0
AreSlotsOf None slots = Unit {0}
AreSlotsOf (Some replaying) slots = slots ≡ ends_slots replaying.ends

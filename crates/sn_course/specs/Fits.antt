-- The event of a line: what both ends did, the moves that this says, and how it ended.
use Rattle.std.specs.Prelude.{◌≡◌, ℕ, List, [], ◌++◌, Bool, false, true, Option, Some, None}
use Rattle.sn_device.specs.Runs.{Act, Call, Halt, answered, broken, content, delete, edit, list, passwd, put, refused, register, sign_in, sync}
use Rattle.sn_device.specs.declared.error.ClientError.{ClientError}
use Rattle.sn_device.specs.declared.error.ClientError.TheVariants as client
use Rattle.sn_events.specs.Events.{AreServedAt, status_of}
use Rattle.sn_events.specs.Fates.{AnyAskLost, AreByLosses}
use Rattle.sn_laws.specs.Lookups.{Bytes}
use Rattle.sn_laws.specs.Runs.{end}
use Rattle.sn_laws.specs.declared.ideal.Ideal.{Ideal}
use Rattle.sn_lines.specs.Lines.{MayHappen}
use Rattle.sn_passwd.specs.Ends.{HasNewSet, IsAtRest}
use Rattle.sn_report.specs.Showing.{show_lines}
use Rattle.sn_report.specs.declared.report.Event.{Event}
use Rattle.sn_report.specs.declared.report.Last.{Last}
use Rattle.sn_report.specs.declared.report.Last.TheVariants as last
use Rattle.sn_rows.specs.Table.{Rows}
use Rattle.sn_rows.specs.declared.change.Change.{Change}
use Rattle.sn_script.specs.declared.script.Line.{Line}
use Rattle.sn_script.specs.declared.script.Line.TheVariants as line
use Rattle.sn_script.specs.declared.script.Ordinal.{Ordinal}
use Rattle.sn_shown.specs.Closed.{AreClosed}
use Rattle.sn_status.specs.declared.refusal.ClientRefusal.TheVariants as refusal
use Rattle.sn_sync.specs.declared.answer.Answer.{Answer}
use Rattle.sn_world.specs.Calls.{Fate, served}
use Rattle.sn_world.specs.Sessions.{LeadsLine, again, calls}
use Rattle.sn_world.specs.World.{Made, World}
use Rattle.sn_course.specs.Stages.{Stage, Reported, nth_made}
use Rattle.sn_course.specs.Lines.{call_of, device_of, fates_of, losses_of}
use Rattle.sn_course.specs.Settings.{words_of}

-- ---- how an event ends

-- a call that was refused so ends with this line; one in want of memory ends the replay
abbrev pub EndsRefused : ClientError → Last → Type 0
EndsRefused client.NoAccount l = l ≡ last.Refused refusal.NoAccount
EndsRefused (client.NoItem uuid) l = l ≡ last.Refused (refusal.NoItem uuid)
EndsRefused (client.Closed nonce) l = l ≡ last.Refused (refusal.Closed nonce)
EndsRefused (client.TooLong length) l = l ≡ last.Refused (refusal.TooLong length)
EndsRefused client.NotObject l = l ≡ last.Refused refusal.NotObject
EndsRefused (client.Refused status tag) l = l ≡ last.Server status tag
EndsRefused (client.BadAnswer place) l = l ≡ last.BadAnswer place
EndsRefused client.RoundsUsed l = l ≡ last.Refused refusal.RoundsUsed
EndsRefused (client.NoFreshUuid drawn) l = l ≡ last.Refused (refusal.NoFreshUuid drawn)
EndsRefused client.WrongPassword l = l ≡ last.Refused refusal.WrongPassword
EndsRefused (client.OtherAccount identifier) l = l ≡ last.Refused (refusal.OtherAccount identifier)
EndsRefused (client.HasAccount identifier) l = l ≡ last.Refused (refusal.HasAccount identifier)
EndsRefused (client.Cost cost) l = l ≡ last.Refused (refusal.Cost cost)
EndsRefused (client.NumbersUsed next) l = l ≡ last.Refused (refusal.NumbersUsed next)
EndsRefused (client.Rekey error) l = l ≡ last.Refused (refusal.Rekey error)
EndsRefused (client.TooLarge size) l = l ≡ last.Refused (refusal.TooLarge size)
EndsRefused client.LinkFault l = l ≡ last.Link
EndsRefused client.Memory l = ⊥

abbrev pub EndsSo : Halt → Last → Type 0
EndsSo (answered given left) l = l ≡ last.Done
EndsSo (refused why) l = EndsRefused why l
EndsSo (broken what changes) l = ⊥

-- a sync that ends well leaves its device at rest: it has just the undeleted last versions of its account, no draft, nothing to be sealed again and no set
-- that is asked for, and holds its account's last set alone. So does a change of password; and behind it that set is a new one, the keys of the password at
-- the cost that was set, and each undeleted last version carries it
abbrev pub EndsWell : Call → Bytes → Ideal → Rows → Ideal → Last → Type 0
EndsWell sync name before rows s l = l ≡ last.Done → IsAtRest rows s name
EndsWell (passwd password cost) name before rows s l = l ≡ last.Done → (x : IsAtRest rows s name) × HasNewSet rows before x.synced.account password cost
EndsWell (register identifier password cost) name before rows s l = Unit {0}
EndsWell (sign_in identifier password) name before rows s l = Unit {0}
EndsWell (put kind text) name before rows s l = Unit {0}
EndsWell (edit uuid text) name before rows s l = Unit {0}
EndsWell (delete uuid) name before rows s l = Unit {0}
EndsWell list name before rows s l = Unit {0}
EndsWell (content uuid) name before rows s l = Unit {0}

-- ---- what both ends did

-- The device made this call, from the line's words, at the line's moment, and lost what the line says: a line of the world. It ends for the link only where the
-- line has a request or an answer lost. The event has its moves.
pub record Called (secret : Bytes) (c : Stage) (r : Reported) (name : Bytes) (call : Call) (e : Event) (next : World) : Type 0 where
  pub acts : List Act
  pub fates : List Fate
  pub halt : Halt
  pub comes : MayHappen secret c.world (end c.moves) (calls name 1 call (words_of r.settings r.number) acts fates halt true)
  pub leads : LeadsLine secret c.world (end c.moves) (calls name 1 call (words_of r.settings r.number) acts fates halt true)
  pub next_is : next ≡ leads.next
  pub moves_are : e.moves ≡ leads.moves
  pub by_losses : AreByLosses (losses_of (fates_of r.asks)) 1 acts fates
  pub link_lost : halt ≡ refused client.LinkFault → AnyAskLost (losses_of (fates_of r.asks)) 1 acts
  pub at : AreServedAt r.settings.clock fates
  pub ended : EndsSo halt e.last
  pub well : EndsWell call name (end c.moves) (next.devices name) (end (c.moves ++ e.moves)) e.last

-- The request that is meant was served once more, at the line's moment, and nobody heard the answer: a line of the world.
pub record CameAgain (secret : Bytes) (c : Stage) (r : Reported) (device : Bytes) (which : Ordinal) (e : Event) (next : World) : Type 0 where
  pub m : Made
  pub meant : nth_made device c.world.made which ≡ Some m
  pub changes : List Change
  pub given : Answer
  pub comes : MayHappen secret c.world (end c.moves) (again m.device m.request (served r.settings.clock changes given false))
  pub leads : LeadsLine secret c.world (end c.moves) (again m.device m.request (served r.settings.clock changes given false))
  pub begins_is : leads.begins m.request ≡ m.begins
  pub next_is : next ≡ leads.next
  pub moves_are : e.moves ≡ leads.moves
  pub ended : e.last ≡ last.Answer (status_of given)

-- both ends stay as they are
pub record IsShown (c : Stage) (e : Event) (next : World) : Type 0 where
  pub next_is : next ≡ c.world
  pub moves_are : e.moves ≡ []
  pub ended : e.last ≡ last.Done

abbrev pub CallsOf : Bytes → Stage → Reported → Option Bytes → Option Call → Event → World → Type 0
CallsOf secret c r (Some name) (Some call) e next = Called secret c r name call e next
CallsOf secret c r (Some name) None e next = ⊥
CallsOf secret c r None call e next = ⊥

-- by the line
abbrev pub HappensAs : Line → Bytes → Stage → Reported → Event → World → Type 0
HappensAs (line.Late device which) secret c r e next = CameAgain secret c r device which e next
HappensAs line.Show secret c r e next = IsShown c e next
HappensAs other secret c r e next = CallsOf secret c r (device_of other) (call_of c.labels r.settings other) e next

-- ---- the event

-- whether the line puts a new item
abbrev pub puts_item : Line → Bool
puts_item (line.Put device fates text) = true
puts_item other = false

-- What `show` prints: a function of the state, of the labels, of the devices that have begun, and of which of their rows are closed, as these rows have it.
-- No other line shows anything.
abbrev pub ShowsAs : Line → Stage → List Bytes → Type 0
ShowsAs line.Show c lines = (closed : Bytes → Bytes → Option ℕ) × AreClosed c.world.devices (end c.moves) closed
    × (lines ≡ show_lines c.labels c.names (end c.moves) closed)
ShowsAs other c lines = lines ≡ []

-- the event is the line's
pub record Fits (secret : Bytes) (c : Stage) (r : Reported) (e : Event) (next : World) : Type 0 where
  pub number : e.number ≡ r.number
  pub puts : e.puts ≡ puts_item r.asks
  pub happens : HappensAs r.asks secret c r e next
  pub shown : ShowsAs r.asks c e.shown

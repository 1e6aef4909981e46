-- What came of a call, and the event that is told of it.
use Rattle.std.specs.Prelude.{◌≡◌, ℕ, List, [], Bool, Option, Some, true}
use Rattle.rand_chacha.specs.ChaCha.{ChaCha}
use Rattle.sn_device.specs.Runs.{Act, Call, Halt, refused}
use Rattle.sn_device.specs.declared.error.ClientError.TheVariants as client
use Rattle.sn_course.specs.Fits.{EndsSo}
use Rattle.sn_events.specs.Calling.{host}
use Rattle.sn_events.specs.Events.{AreServedAt}
use Rattle.sn_events.specs.Fates.{AnyAskLost, AreByLosses}
use Rattle.sn_events.specs.Growing.{EndsGoOn}
use Rattle.sn_events.specs.Slots.{EndsGrow, device_slot, server_slot, slot_mark}
use Rattle.sn_events.specs.Standing.{Stands}
use Rattle.sn_events.specs.declared.ends.Ends.{Ends}
use Rattle.sn_events.specs.declared.setting.Setting.{Setting}
use Rattle.sn_journal.specs.declared.owner.Owner.TheVariants.{Device as DeviceOwner, Server as ServerOwner}
use Rattle.sn_laws.specs.Lookups.{Bytes}
use Rattle.sn_laws.specs.Runs.{LegalFrom, end_from}
use Rattle.sn_laws.specs.declared.ideal.Ideal.{Ideal}
use Rattle.sn_laws.specs.declared.moves.Move.{Move}
use Rattle.sn_lines.specs.Lines.{MayHappen}
use Rattle.sn_link.specs.Laws.{AreReadable}
use Rattle.sn_recorder.specs.Told.{AreTold}
use Rattle.sn_report.specs.declared.report.DeviceMark.{DeviceMark}
use Rattle.sn_report.specs.declared.report.Event.{Event}
use Rattle.sn_report.specs.declared.report.Last.{Last}
use Rattle.sn_tail.specs.Shelves.{SlotReads}
use Rattle.sn_telling.specs.Laws.{IsWhole}
use Rattle.sn_world.specs.Calls.{Fate}
use Rattle.sn_world.specs.Sessions.{LeadsLine, calls}
use Rattle.sn_world.specs.World.{World}
use Rattle.sn_replay.specs.declared.came.Came.{Came}

-- ---- the call

-- the device made it, as a line of the world says, and what is to be told of it are its batches and its exchanges
pub record HasCame (secret : Bytes) (w : World) (s : Ideal) (name : Bytes) (call : Call) (words : ChaCha) (setting : Setting) (old : Ends) (came : Came) : Type 0 where
  pub acts : List Act
  pub fates : List Fate
  pub halt : Halt
  pub comes : MayHappen secret w s (calls name 1 call words acts fates halt true)
  pub leads : LeadsLine secret w s (calls name 1 call words acts fates halt true)
  pub legal : LegalFrom s leads.moves
  pub stands : Stands came.ends secret leads.next (end_from s leads.moves)
  pub ended : EndsSo halt came.last
  pub whole : IsWhole halt
  pub by_losses : AreByLosses setting.losses 1 acts fates
  pub link_lost : halt ≡ refused client.LinkFault → AnyAskLost setting.losses 1 acts
  pub at : AreServedAt setting.now fates
  pub told : AreTold host acts fates came.batches came.exchanged
  pub readable : AreReadable host acts
  pub goes_on : EndsGoOn name old came.ends
  pub grow : EndsGrow old came.ends

-- ---- the event

-- it is of this device, with the present marks, at which the disks stand for the world's rows
pub record IsEventOf (ends : Ends) (w : World) (number : ℕ) (name : Bytes) (puts : Bool) (moves : List Move) (last : Last) (e : Event) : Type 0 where
  pub number_is : e.number ≡ number
  pub puts_is : e.puts ≡ puts
  pub moves_are : e.moves ≡ moves
  pub shown_none : e.shown ≡ []
  pub last_is : e.last ≡ last
  pub server_mark : e.server_mark ≡ slot_mark (server_slot ends)
  pub server_reads : SlotReads (server_slot ends) ServerOwner e.server_mark w.server
  pub mark : DeviceMark
  pub mark_is : e.device_mark ≡ Some mark
  pub named : mark.name ≡ name
  pub device_mark : mark.mark ≡ slot_mark (device_slot ends name)
  pub device_reads : SlotReads (device_slot ends name) DeviceOwner mark.mark (w.devices name)

-- An event: a call of a device at the server, as a line of the world.
use Rattle.std.specs.Prelude.{◌≡◌, ℕ, List, [], ◌∷◌, false, true}
pub use Rattle.sn_account.specs.RuleLaws.{status_of}
use Rattle.rand_chacha.specs.ChaCha.{ChaCha}
use Rattle.sn_device.specs.Runs.{Act, Call, Given, Halt, Run, asked, commits, refused}
use Rattle.sn_device.specs.declared.error.ClientError.TheVariants as client
use Rattle.sn_events.specs.Answers.{IsHalt}
use Rattle.sn_events.specs.Calling.{host}
use Rattle.sn_events.specs.Devices.{device_of}
use Rattle.sn_events.specs.Fates.{AnyAskLost, AreByLosses}
use Rattle.sn_events.specs.Growing.{EndsGoOn}
use Rattle.sn_events.specs.Slots.{EndsGrow}
use Rattle.sn_events.specs.Standing.{Stands}
use Rattle.sn_events.specs.declared.ends.Ends.{Ends}
use Rattle.sn_events.specs.declared.outcome.Again.{Again}
use Rattle.sn_events.specs.declared.outcome.Outcome.{Outcome}
use Rattle.sn_events.specs.declared.setting.Setting.{Setting}
use Rattle.sn_laws.specs.Lookups.{Bytes}
use Rattle.sn_laws.specs.Runs.{LegalFrom, end_from}
use Rattle.sn_laws.specs.declared.ideal.Ideal.{Ideal}
use Rattle.sn_lines.specs.Lines.{MayHappen}
use Rattle.sn_link.specs.Laws.{AreReadable, IsAnswered, IsReadable}
use Rattle.sn_recorder.specs.Told.{AreTold}
use Rattle.sn_rows.specs.Table.{Rows}
use Rattle.sn_rows.specs.declared.change.Change.{Change}
use Rattle.sn_server.specs.Stores.{batch_of}
use Rattle.sn_sync.specs.declared.answer.Answer.{Answer}
use Rattle.sn_world.specs.Calls.{Fate, crashed, rows_behind, served, undelivered}
use Rattle.sn_world.specs.Sessions.{LeadsLine, again, calls}
use Rattle.sn_world.specs.World.{Made, World}

-- each request is one that a server reads, where those before it were answered as a server with these rows answers
abbrev pub AreReadableBy : Bytes → Rows → List Act → Type 0
AreReadableBy at server [] = Unit {0}
AreReadableBy at server (commits what changes ∷ acts) = AreReadableBy at server acts
AreReadableBy at server (asked r reply ∷ acts) =
    IsReadable at r × ((fate : Fate) → IsAnswered server r reply fate → AreReadableBy at (rows_behind server fate) acts)

-- the premise of an event that asks the server: whatever the call does on these rows, and whatever rows the server has, its requests are read
abbrev pub AsksReadable : Call → Rows → Type 0
AsksReadable call rows = (words : ChaCha) (acts : List Act) (halt : Halt) → Run 1 call rows words acts halt → (server : Rows) → AreReadableBy host server acts

-- each request that is served is served at this moment
abbrev pub AreServedAt : ℕ → List Fate → Type 0
AreServedAt now [] = Unit {0}
AreServedAt now (undelivered ∷ fates) = AreServedAt now fates
AreServedAt now (served moment changes given arrives ∷ fates) = (moment ≡ now) × AreServedAt now fates
AreServedAt now (crashed moment changes given ∷ fates) = (moment ≡ now) × AreServedAt now fates

-- The device of this name made the call, from these words, and these are left of them. It did what its line says, the ends stand behind that line, how it
-- ended is what was given, and what is to be told of it are its batches and its exchanges.
module _ {T : Type 0} (secret : Bytes) (w : World) (s : Ideal) (name : Bytes) (call : Call) (words left : ChaCha) (setting : Setting) (gives : T → Given)
    (old : Ends) (outcome : Outcome T) where
  pub record CallCame : Type 0 where
    pub acts : List Act
    pub fates : List Fate
    pub halt : Halt
    pub comes : MayHappen secret w s (calls name 1 call words acts fates halt true)
    pub leads : LeadsLine secret w s (calls name 1 call words acts fates halt true)
    pub legal : LegalFrom s leads.moves
    pub stands : Stands outcome.ends secret leads.next (end_from s leads.moves)
    pub halt_is : IsHalt gives left outcome.answer halt
    pub by_losses : AreByLosses setting.losses 1 acts fates
    -- it ends for the link only where a request is lost by name
    pub link_lost : halt ≡ refused client.LinkFault → AnyAskLost setting.losses 1 acts
    pub at : AreServedAt setting.now fates
    pub told : AreTold host acts fates outcome.batches outcome.exchanged
    pub readable : AreReadable host acts
    pub goes_on : EndsGoOn name old outcome.ends
    pub grow : EndsGrow old outcome.ends

-- ---- a request that comes late or again

-- A request that was made was served once more, at this moment, as its line says; the ends stand behind that line. The server's store gained what the request
-- changed, and its answer had this status.
pub record AgainCame (secret : Bytes) (w : World) (s : Ideal) (m : Made) (now : ℕ) (old : Ends) (again_made : Again) : Type 0 where
  pub changes : List Change
  pub given : Answer
  pub comes : MayHappen secret w s (again m.device m.request (served now changes given false))
  pub leads : LeadsLine secret w s (again m.device m.request (served now changes given false))
  pub begins_is : leads.begins m.request ≡ m.begins
  pub legal : LegalFrom s leads.moves
  pub stands : Stands again_made.ends secret leads.next (end_from s leads.moves)
  pub gained : again_made.batches ≡ batch_of changes
  pub status_is : again_made.status ≡ status_of given
  pub grow : EndsGrow old again_made.ends
  -- no device has changed
  pub devices : (name : Bytes) → device_of again_made.ends.devices name ≡ device_of old.devices name

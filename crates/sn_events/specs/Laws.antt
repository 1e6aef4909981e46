-- What a call is in the world, by its run and by what became of its requests.
use Rattle.std.specs.Prelude.{◌≡◌, ◌≢◌, ℕ, List, [], ◌∷◌, Some, true, false}
use Rattle.rand_chacha.specs.ChaCha.{ChaCha}
use Rattle.sn_account.specs.Sound.{IsSound}
use Rattle.sn_device.specs.Asking.{IsRequestBytes}
use Rattle.sn_device.specs.Runs.{Act, AreExchanges, Call, Halt, Run, asked, commits}
use Rattle.sn_events.specs.Answers.{IsPlain}
use Rattle.sn_events.specs.Calling.{IsOpenHeld, IsRecording, host}
use Rattle.sn_events.specs.Events.{AreReadableBy, AreServedAt, status_of}
use Rattle.sn_events.specs.Fates.{AnyAskLost, AreByLosses}
use Rattle.sn_events.specs.Servers.{ServesRows}
use Rattle.sn_events.specs.declared.setting.Setting.{Setting}
use Rattle.sn_http.specs.Answers.{IsAnswer as IsHttpAnswer}
use Rattle.sn_laws.specs.Lookups.{Bytes}
use Rattle.sn_laws.specs.declared.ideal.Ideal.{Ideal}
use Rattle.sn_lines.specs.Lines.{MayCall, MayHappen}
use Rattle.sn_link.specs.Deliveries.{serves}
use Rattle.sn_link.specs.Laws.{AreReadable, IsReadable}
use Rattle.sn_link.specs.Links.{Befalls, link_faults, link_held}
use Rattle.sn_link.specs.declared.link.ServingLink.{ServingLink}
use Rattle.sn_link.specs.declared.losses.Lost.TheVariants.{Nothing}
use Rattle.sn_net.specs.Exchanges.{Exchange}
use Rattle.sn_recorder.specs.Recorded.{Gains, Records, recorded_link, recorded_place}
use Rattle.sn_recorder.specs.Told.{AreTold}
use Rattle.sn_recorder.specs.declared.recording.RecordingLink.{RecordingLink}
use Rattle.sn_rows.specs.declared.change.Change.{Change}
use Rattle.sn_server.specs.Stores.{Kept, batch_of}
use Rattle.sn_sync.specs.declared.answer.Answer.{Answer}
use Rattle.sn_world.specs.Calls.{AsksNothing, Fate, served}
use Rattle.sn_world.specs.Holds.{Holds, TokensDiffer}
use Rattle.sn_world.specs.Laws.{KeptBy}
use Rattle.sn_world.specs.Sessions.{LeadsLine, again, calls}
use Rattle.sn_world.specs.World.{IsMade, Made, World}

-- the batches of the commits among some acts
abbrev pub commits_of : List Act → List (List Change)
commits_of [] = []
commits_of (commits what changes ∷ acts) = changes ∷ commits_of acts
commits_of (asked r reply ∷ acts) = commits_of acts

-- The call comes with some fates, which are by what is lost, at the moment that is set; its link has failed only where a request is lost by name. Its line
-- leads on, the invariant holds behind it, and the link holds the server that is left. Its exchanges were recorded as its line has them.
pub record LineCame (secret : Bytes) (w : World) (s : Ideal) (name : Bytes) (call : Call) (words : ChaCha) (acts : List Act) (halt : Halt) (setting : Setting)
    (new : RecordingLink) : Type 0 where
  pub fates : List Fate
  pub comes : MayHappen secret w s (calls name 1 call words acts fates halt true)
  pub leads : LeadsLine secret w s (calls name 1 call words acts fates halt true)
  pub keeps : KeptBy secret leads.next s leads.moves
  pub server : ServesRows (link_held (recorded_link new)) (recorded_place new) leads.next.server
  pub by_losses : AreByLosses setting.losses 1 acts fates
  pub link_lost : link_faults (recorded_link new) ≢ 0 → AnyAskLost setting.losses 1 acts
  pub at : AreServedAt setting.now fates
  pub told : AreTold host acts fates (commits_of acts) new.exchanged
  pub readable : AreReadable host acts

-- a call over a link whose server stands as the world's, and which is set and recorded
abbrev pub CallsCome : Type 0
CallsCome = (secret : Bytes) (w : World) (s : Ideal) (name : Bytes) (call : Call) (words : ChaCha) (acts : List Act) (halt : Halt) (xs : List Exchange)
    (setting : Setting) (link : ServingLink) (place : ℕ) (old new : RecordingLink) → TokensDiffer secret → Holds secret w s → MayCall s (w.devices name) call
    → Run 1 call (w.devices name) words acts halt → IsPlain halt → AreReadableBy host w.server acts → AreExchanges host acts xs
    → ServesRows (link_held link) place w.server → IsRecording link place setting old → Records old new xs → new.whole ≡ true → IsOpenHeld (link_held (recorded_link new))
    → LineCame secret w s name call words acts halt setting new

-- a call that asks for nothing
abbrev pub QuietCome : Type 0
QuietCome = (secret : Bytes) (w : World) (s : Ideal) (name : Bytes) (call : Call) (words : ChaCha) (acts : List Act) (halt : Halt)
    (setting : Setting) (link : ServingLink) (place : ℕ) (recording : RecordingLink) → TokensDiffer secret → Holds secret w s → AsksNothing call
    → Run 1 call (w.devices name) words acts halt → IsPlain halt → ServesRows (link_held link) place w.server → IsRecording link place setting recording
    → LineCame secret w s name call words acts halt setting recording

-- ---- a request that comes late or again

-- It was served, with these changes; its line leads on, and the invariant holds behind it. The store gained the batch of the changes, and the answer had the status.
pub record AgainLine (secret : Bytes) (w : World) (s : Ideal) (m : Made) (now : ℕ) (next : Kept) (batches : List (List Change)) (status : ℕ) : Type 0 where
  pub changes : List Change
  pub given : Answer
  pub comes : MayHappen secret w s (again m.device m.request (served now changes given false))
  pub leads : LeadsLine secret w s (again m.device m.request (served now changes given false))
  pub begins_is : leads.begins m.request ≡ m.begins
  pub keeps : KeptBy secret leads.next s leads.moves
  pub rows_are : next.rows ≡ leads.next.server
  pub sound : IsSound next.rows
  pub gained : batches ≡ batch_of changes
  pub status_is : status ≡ status_of given

-- one that was made, by its bytes, where an answer came that isn't want of memory
abbrev pub AgainComes : Type 0
AgainComes = (secret : Bytes) (w : World) (s : Ideal) (m : Made) (bytes : Bytes) (now : ℕ) (kept next : Kept) (batches : List (List Change)) (answer : Bytes) (status : ℕ) (body : Bytes)
    → TokensDiffer secret → Holds secret w s → IsMade w m → IsRequestBytes host m.request bytes → IsReadable host m.request → kept.rows ≡ w.server → IsSound kept.rows
    → Befalls Nothing now (serves kept) (record { host = []; request = bytes; answer = Some answer }) (serves next) → Gains (serves kept) batches (serves next)
    → IsHttpAnswer answer status body → status ≢ 503 → AgainLine secret w s m now next batches status

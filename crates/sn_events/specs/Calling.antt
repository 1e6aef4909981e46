-- The parts of the ends while a device makes its call, and the ends that they are put back into.
use Rattle.std.specs.Prelude.{◌≡◌, ◌≢◌, ◌++◌, ℕ, List, [], None, Some, true, codes}
use Rattle.std.specs.declared.option.Option.{Option}
use Rattle.sn_account.specs.Sound.{IsSound}
use Rattle.sn_client.specs.declared.called.Called.{Called}
use Rattle.sn_disk.specs.declared.memory.MemDisk.{MemDisk}
use Rattle.sn_events.specs.Answers.{IsAnswered}
use Rattle.sn_events.specs.Devices.{DeviceHas, HasRows, device_of}
use Rattle.sn_events.specs.Growing.{ComesFrom}
use Rattle.sn_events.specs.Steadies.{IsSteady}
use Rattle.sn_events.specs.declared.calling.Calling.{Calling}
use Rattle.sn_events.specs.declared.devices.Devices.{Devices}
use Rattle.sn_events.specs.declared.ends.Ends.{Ends}
use Rattle.sn_events.specs.declared.outcome.Outcome.{Outcome}
use Rattle.sn_events.specs.declared.setting.Setting.{Setting}
use Rattle.sn_events.specs.declared.steady.Holding.{Holding}
use Rattle.sn_events.specs.declared.steady.Holding.TheVariants.{Device}
use Rattle.sn_journal.specs.declared.owner.Owner.TheVariants.{Device as DeviceOwner}
use Rattle.sn_laws.specs.Lookups.{Bytes}
use Rattle.sn_link.specs.Links.{Asks, link_faults, link_held, link_losses, link_now, link_number}
use Rattle.sn_link.specs.declared.delivery.Held.{Held}
use Rattle.sn_link.specs.declared.delivery.Held.TheVariants.{Broken, Open}
use Rattle.sn_link.specs.declared.link.ServingLink.{ServingLink}
use Rattle.sn_recorder.specs.Recorded.{recorded_link, recorded_place}
use Rattle.sn_recorder.specs.declared.recording.RecordingLink.{RecordingLink}
use Rattle.sn_rows.specs.Table.{Rows}
use Rattle.sn_rows.specs.declared.change.Change.{Change}
use Rattle.sn_server.specs.Stores.{server_rows}
use Rattle.sn_table.specs.Kept.{Kept}
use Rattle.sn_tail.specs.Places.{place_behind}

-- the host that devices ask
abbrev pub host : Bytes
host = codes "replay:0"

-- a link to the server of another, set so, which has not failed yet
pub record IsSet (setting : Setting) (old new : ServingLink) : Type 0 where
  pub held : link_held new ≡ link_held old
  pub now_is : link_now new ≡ setting.now
  pub losses_are : link_losses new ≡ setting.losses
  pub number_is : link_number new ≡ 1
  pub unfailed : link_faults new ≡ 0

-- a link to the link's server is set and aimed, and what is asked over it is recorded from the server's place on; nothing was asked yet
pub record IsRecording (link : ServingLink) (place : ℕ) (setting : Setting) (recording : RecordingLink) : Type 0 where
  pub begun : ServingLink
  pub begun_so : IsSet setting link begun
  pub unasked : Asks begun (recorded_link recording) []
  pub aimed_is : (recorded_link recording).host ≡ host
  pub place_is : recorded_place recording ≡ place
  pub none : recording.exchanged ≡ []

-- the link records, and the device of the name is taken out of the others, or is a fresh one
pub record IsReady (ends : Ends) (setting : Setting) (name : Bytes) (calling : Calling) : Type 0 where
  pub recording : IsRecording ends.link ends.place setting calling.link
  pub rows : (rows : Rows) → HasRows (device_of ends.devices name) rows → DeviceHas calling.device calling.place rows
  pub from : ComesFrom (device_of ends.devices name) (Device calling.device calling.place)
  pub others : (other : Bytes) → other ≢ name → device_of calling.devices other ≡ device_of ends.devices other
  pub steady : IsSteady calling.device

-- the server is open, and its rows are sound
abbrev pub IsOpenHeld : Option Held → Type 0
IsOpenHeld None = ⊥
IsOpenHeld (Some (Open server)) = IsSound (server_rows server)
IsOpenHeld (Some (Broken disk)) = ⊥

-- the link's server is put back, with the place behind its batches, and memory sufficed for what was to be recorded
pub record IsServerBack (recording : RecordingLink) (link : ServingLink) (place : ℕ) : Type 0 where
  pub whole : recording.whole ≡ true
  pub held : link_held link ≡ link_held (recorded_link recording)
  pub open_held : IsOpenHeld (link_held (recorded_link recording))
  pub place_is : place ≡ recorded_place recording

-- of a device that has these batches and some behind them, from whose place on they are read: these are those behind it, and this is the place behind all
abbrev pub AreBehind : {S : Type 0} → (S → Kept → Type 0) → S → ℕ → List (List Change) → ℕ → Type 0
AreBehind is_open device place batches gate = (kept : Kept) (before later : List (List Change)) → is_open device kept → kept.batches ≡ before ++ later
    → place ≡ place_behind DeviceOwner before → (batches ≡ later) × (gate ≡ place_behind DeviceOwner (before ++ later))

module _ {S T : Type 0} (hold : S → ℕ → Holding) (is_open : S → Kept → Type 0) where
  -- The link's server and the device of the name are put back as they are behind the call, and no other device has changed. The batches are those that the
  -- device's store has behind its place.
  pub record IsPutBack (link : RecordingLink) (devices : Devices) (place : ℕ) (name : Bytes) (called : Called S MemDisk T) (outcome : Outcome T) : Type 0 where
    pub server : IsServerBack link outcome.ends.link outcome.ends.place
    pub device : S
    pub gate : ℕ
    pub own : device_of outcome.ends.devices name ≡ Some (hold device gate)
    pub gives : IsAnswered called device outcome.answer
    pub behind : AreBehind is_open device place outcome.batches gate
    pub exchanged_are : outcome.exchanged ≡ link.exchanged
    pub others : (other : Bytes) → other ≢ name → device_of outcome.ends.devices other ≡ device_of devices other

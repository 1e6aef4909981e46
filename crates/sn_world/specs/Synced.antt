-- A sync that is answered: its device has just the items of its account.
use Rattle.std.specs.Prelude.{◌≡◌, ℕ, List, None}
use Rattle.rand_chacha.specs.ChaCha.{ChaCha}
use Rattle.sn_device.specs.Runs.{Act, Given, Run, answered, rows_done, sync}
use Rattle.sn_laws.specs.Lookups.{Bytes, draft_at}
use Rattle.sn_laws.specs.Runs.{end_from}
use Rattle.sn_laws.specs.declared.ideal.Account.{Account}
use Rattle.sn_laws.specs.declared.ideal.Device.{Device}
use Rattle.sn_laws.specs.declared.ideal.Ideal.{Ideal}
use Rattle.sn_rows.specs.Table.{Rows}
use Rattle.sn_shows.specs.Laws.{HasAccount}
use Rattle.sn_world.specs.Calls.{AreServed, Fate, Leads, begins_none, call_steps, rows_served}
use Rattle.sn_world.specs.Happens.{Happens}
use Rattle.sn_world.specs.Holds.{Holds, TokensDiffer}
use Rattle.sn_world.specs.Plain.{AsksNoSet}
use Rattle.sn_world.specs.Pulled.{HasAll, StandOnLasts}
use Rattle.sn_world.specs.World.{World}

-- the device has an account, all versions of it and no draft; so its rows stand on just the account's undeleted last versions
pub record IsSynced (rows : Rows) (s : Ideal) (name : Bytes) : Type 0 where
  pub device : Device
  pub account : Account
  pub has : HasAccount s name device account
  pub undrafted : (uuid : Bytes) → draft_at s name uuid ≡ None
  pub whole : HasAll rows s name
  pub stand : StandOnLasts rows account

-- steps that can be made one after another lead to such rows
pub record LeadsSynced (secret : Bytes) (w : World) (s : Ideal) (name : Bytes) (steps : List Happens) (server device : Rows) : Type 0 where
  pub leads : Leads secret w s name steps server device
  pub synced : IsSynced (leads.next.devices name) (end_from s leads.moves) name

-- a sync that is answered is such steps, whatever its device and others did before, where the device asks for no set
abbrev pub SyncsEnd : Type 0
SyncsEnd = (secret : Bytes) (w : World) (s : Ideal) (name : Bytes) (least : ℕ) (words left : ChaCha) (acts : List Act) (fates : List Fate) (given : Given)
    → TokensDiffer secret → Holds secret w s → AsksNoSet (w.devices name) → Run least sync (w.devices name) words acts (answered given left)
    → AreServed w.server acts fates
    → LeadsSynced secret w s name (call_steps name begins_none acts fates) (rows_served w.server fates) (rows_done (w.devices name) acts)

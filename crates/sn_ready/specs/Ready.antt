-- How a sync ends of a device that is ready: it asks for no set, and the greatest set that it holds is its account's last, whatever passwords were changed
-- before.
use Rattle.std.specs.Prelude.{◌≡◌, ℕ, List, length}
use Rattle.rand_chacha.specs.ChaCha.{ChaCha}
use Rattle.sn_device.specs.Runs.{Act, Halt, Run, sync}
use Rattle.sn_device.specs.States.{HasOwner}
use Rattle.sn_laws.specs.Each.{Each}
use Rattle.sn_laws.specs.Lookups.{Bytes, empty, greatest}
use Rattle.sn_laws.specs.Runs.{end}
use Rattle.sn_laws.specs.declared.ideal.Account.{Account}
use Rattle.sn_laws.specs.declared.ideal.Device.{Device}
use Rattle.sn_laws.specs.declared.ideal.Ideal.{Ideal}
use Rattle.sn_laws.specs.declared.moves.Move.{Move}
use Rattle.sn_rows.specs.declared.device_rows.OwnerRow.{OwnerRow}
use Rattle.sn_shows.specs.Laws.{HasAccount}
use Rattle.sn_world.specs.Answering.{Arrives, SyncEnds}
use Rattle.sn_world.specs.Calls.{Fate}
use Rattle.sn_world.specs.Delivered.{AreServedBy}
use Rattle.sn_world.specs.Fitting.{FitsUuids}
use Rattle.sn_world.specs.Happens.{Happens, Trace}
use Rattle.sn_world.specs.Holds.{Holds, TokensDiffer}
use Rattle.sn_world.specs.Plain.{AsksNoSet}
use Rattle.sn_world.specs.World.{World, at_first}

-- ---- a device that is ready

-- the greatest set that the device holds is its account's last, so its session token is the account's present one. It may hold an older set too, and have
-- rows that are to be sealed again
abbrev pub HoldsLast : Ideal → Bytes → Type 0
HoldsLast s name = (d : Device) (a : Account) → HasAccount s name d a → greatest 0 d.held ≡ length a.sets

-- and it asks for no set
pub record IsReady (w : World) (s : Ideal) (name : Bytes) : Type 0 where
  pub unasked : AsksNoSet (w.devices name)
  pub last : HoldsLast s name

-- ---- the laws

-- each sync of such a device that has an account ends so, where no request is lost, no answer is, and no crash takes a commit away: it is answered, or
-- refused for a cause that is named. What is to be sealed again is sent so, and is accepted or conflicts
abbrev pub ReadySyncsAnswer : Type 0
ReadySyncsAnswer = (secret : Bytes) (w : World) (s : Ideal) (name : Bytes) (owner : OwnerRow) (least : ℕ) (words : ChaCha) (acts : List Act)
    (fates : List Fate) (halt : Halt) → TokensDiffer secret → Holds secret w s → IsReady w s name → HasOwner (w.devices name) owner
    → FitsUuids (w.devices name) → Run least sync (w.devices name) words acts halt → AreServedBy w.server acts fates
    → Each Arrives fates → SyncEnds w.server (w.devices name) words acts fates halt

-- so does each that loses nothing, whatever happened from the beginning on, changes of password among it
abbrev pub TracedReadySyncsAnswer : Type 0
TracedReadySyncsAnswer = (secret : Bytes) (steps : List Happens) (moves : List Move) (w : World) (name : Bytes) (owner : OwnerRow) (least : ℕ)
    (words : ChaCha) (acts : List Act) (fates : List Fate) (halt : Halt) → TokensDiffer secret → Trace secret at_first empty steps moves w
    → IsReady w (end moves) name → HasOwner (w.devices name) owner → Run least sync (w.devices name) words acts halt → AreServedBy w.server acts fates
    → Each Arrives fates → SyncEnds w.server (w.devices name) words acts fates halt

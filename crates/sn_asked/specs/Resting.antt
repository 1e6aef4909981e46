-- That no other change of its account's password runs where a device asked for a set while it was at rest.
use Rattle.std.specs.Prelude.{◌≡◌, List}
use Rattle.sn_device.specs.Changing.{MayAsk}
use Rattle.sn_device.specs.States.{HasOwner, HasSets}
use Rattle.sn_laws.specs.Lookups.{Bytes}
use Rattle.sn_laws.specs.Runs.{end_from}
use Rattle.sn_laws.specs.declared.ideal.Ideal.{Ideal}
use Rattle.sn_laws.specs.declared.moves.Move.{Move}
use Rattle.sn_passwd.specs.Ends.{IsAtRest}
use Rattle.sn_ready.specs.Passwds.{IsFinished}
use Rattle.sn_ready.specs.Ready.{HoldsLast}
use Rattle.sn_rows.specs.declared.device_rows.OwnerRow.{OwnerRow}
use Rattle.sn_sets.specs.declared.sets.Sets.{Sets}
use Rattle.sn_world.specs.Happens.{Happens, Trace}
use Rattle.sn_world.specs.Holds.{Holds, TokensDiffer}
use Rattle.sn_world.specs.World.{World}

-- where a device at rest may ask for a set, each undeleted last version of its account carries the last set
abbrev pub AtRestFinished : Type 0
AtRestFinished = (secret : Bytes) (w : World) (s : Ideal) (name : Bytes) (owner : OwnerRow) (sets : Sets) → Holds secret w s
    → IsAtRest (w.devices name) s name → HasSets (w.devices name) owner sets → MayAsk (w.devices name) sets → IsFinished s name

-- and so it is behind any steps, as long as the device has the same session token and holds its account's last set
abbrev pub FinishedStays : Type 0
FinishedStays = (secret : Bytes) (w next : World) (s : Ideal) (name : Bytes) (owner later : OwnerRow) (steps : List Happens) (moves : List Move)
    → TokensDiffer secret → Holds secret w s → Trace secret w s steps moves next → HasOwner (w.devices name) owner → HasOwner (next.devices name) later
    → later.token ≡ owner.token → HoldsLast s name → HoldsLast (end_from s moves) name → IsFinished s name → IsFinished (end_from s moves) name

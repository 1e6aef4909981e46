-- Whole calls that change a password, or bring a change to its end that was asked for, as steps of the world, whatever is lost on the way.
use Rattle.std.specs.Prelude.{ℕ, List}
use Rattle.rand_chacha.specs.ChaCha.{ChaCha}
use Rattle.sn_device.specs.Runs.{Act, Halt, Run, passwd, sync}
use Rattle.sn_laws.specs.Lookups.{Bytes}
use Rattle.sn_laws.specs.declared.ideal.Ideal.{Ideal}
use Rattle.sn_rows.specs.Table.{Rows}
use Rattle.sn_string.specs.declared.params.KeySet.{KeySet}
use Rattle.sn_world.specs.Calls.{AreServed, Fate, GoesCall, IsAskedFor}
use Rattle.sn_world.specs.Holds.{Holds, TokensDiffer}
use Rattle.sn_world.specs.Laws.{IsOnlySet}
use Rattle.sn_world.specs.World.{World}

-- of a set that the device's rows keep as asked for, the account's last one is no other with its parameters and its check value: so it is where no second
-- password was found that has the check value of the first
abbrev pub IsOnlyAsked : Ideal → Rows → Type 0
IsOnlyAsked s device = (set : KeySet) → IsAskedFor device set → IsOnlySet s set

-- whatever a sync does: a set that is asked for is resolved first
abbrev pub EverySyncGoes : Type 0
EverySyncGoes = (secret : Bytes) (w : World) (s : Ideal) (name : Bytes) (least : ℕ) (words : ChaCha) (acts : List Act) (fates : List Fate) (halt : Halt)
    → TokensDiffer secret → Holds secret w s → IsOnlyAsked s (w.devices name) → Run least sync (w.devices name) words acts halt → AreServed w.server acts fates
    → GoesCall secret w s name sync acts fates halt

-- whatever a change of password does
abbrev pub PasswdsGo : Type 0
PasswdsGo = (secret : Bytes) (w : World) (s : Ideal) (name : Bytes) (least : ℕ) (password : Bytes) (cost : ℕ) (words : ChaCha) (acts : List Act)
    (fates : List Fate) (halt : Halt) → TokensDiffer secret → Holds secret w s → IsOnlyAsked s (w.devices name)
    → Run least (passwd password cost) (w.devices name) words acts halt → AreServed w.server acts fates
    → GoesCall secret w s name (passwd password cost) acts fates halt

-- Lines that change no password lead from a world in which none was changed to another such.
use Rattle.std.specs.Prelude.{List}
use Rattle.sn_laws.specs.Each.{Each}
use Rattle.sn_laws.specs.Lookups.{Bytes}
use Rattle.sn_laws.specs.Runs.{end_from}
use Rattle.sn_laws.specs.declared.ideal.Ideal.{Ideal}
use Rattle.sn_lines.specs.Lines.{AllLead, MayHappen, MayHappenAll}
use Rattle.sn_world.specs.Delivered.{KeepsPassword}
use Rattle.sn_world.specs.Holds.{TokensDiffer}
use Rattle.sn_world.specs.Plain.{HoldsPlain, KeptPlain}
use Rattle.sn_world.specs.Sessions.{LeadsLine, Line, again, calls, opens, stops}
use Rattle.sn_world.specs.World.{World}

-- the call of the line, where it has one, is no change of password
abbrev pub KeepsPasswords : Line → Type 0
KeepsPasswords (opens changes stands) = Unit {0}
KeepsPasswords (calls name least call words acts fates halt stands) = KeepsPassword call
KeepsPasswords (stops name least call words front met) = KeepsPassword call
KeepsPasswords (again name r fate) = Unit {0}

-- wherever such a line leads
abbrev pub EachKeepsPlain : Type 0
EachKeepsPlain = (secret : Bytes) (w : World) (s : Ideal) (line : Line) → TokensDiffer secret → HoldsPlain secret w s → KeepsPasswords line → MayHappen secret w s line
    → (x : LeadsLine secret w s line) → KeptPlain secret x.next s x.moves

-- and several, one after another
abbrev pub PlainKeeps : Type 0
PlainKeeps = (secret : Bytes) (w : World) (s : Ideal) (lines : List Line) → TokensDiffer secret → HoldsPlain secret w s → Each KeepsPasswords lines
    → MayHappenAll secret w s lines → (x : AllLead secret w s lines) × HoldsPlain secret x.next (end_from s x.moves)

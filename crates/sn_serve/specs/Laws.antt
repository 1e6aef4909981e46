-- What all connections together come to.
use Rattle.std.specs.Prelude.{List}
use Rattle.sn_disk.specs.declared.disk.Disk.{Ghosts}
use Rattle.sn_server.specs.Steps.{Step, AreSteps, after_all}
use Rattle.sn_server.specs.Stores.{Kept, IsOpen}
use Rattle.sn_serve.specs.Visits.{Stand, Visit, AreVisits}

-- The messages of all connections in one list, each ruled on the rows that those before it left, of its own connection or of
-- an earlier one. What the server has after the connections is what these messages leave of what it had before.
abbrev pub OneList : {D : Type 0} → Ghosts D → Type 0
OneList {D} g = (from to : Stand D g) (visits : List (Visit D g)) (kept : Kept) → AreVisits from visits to → IsOpen from.server kept
    → (steps : List Step) × AreSteps kept steps × IsOpen to.server (after_all kept steps)

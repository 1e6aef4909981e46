-- Any list of steps keeps the invariant.
use Rattle.std.proofs.Common.{◌≡◌, List, [], ◌∷◌, true, false, sym, subst}
use Rattle.sn_laws.proofs.Facts.{end_from-append}
use Rattle.sn_laws.specs.Lookups.{Bytes, empty}
use Rattle.sn_laws.specs.Runs.{end_from}
use Rattle.sn_laws.specs.declared.ideal.Ideal.{Ideal}
use Rattle.sn_laws.specs.declared.moves.Move.{Move}
use Rattle.sn_world.proofs.LegalMoves.{legal_joined}
use Rattle.sn_world.specs.Happens.{Happens, Trace, commits, makes, serves, starts}
use Rattle.sn_world.specs.Holds.{Holds, TokensDiffer}
use Rattle.sn_world.specs.Laws.{HoldsFirst, Keeps, KeepsCommitting, KeepsMaking, KeepsServing, KeepsStarting, KeptBy, TraceKeeps}
use Rattle.sn_world.specs.World.{World, at_first}

-- a step that leaves all as it is
idle : (secret : Bytes) (w next : World) (s : Ideal) (moves : List Move) → Holds secret w s → next ≡ w → moves ≡ [] → KeptBy secret next s moves
idle secret w next s moves h same none =
    subst (λ (ms : List Move). KeptBy secret next s ms) (sym none) (tt, subst (λ (x : World). Holds secret x s) (sym same) h)

no_moves : (secret : Bytes) (next : World) (s : Ideal) (moves : List Move) → moves ≡ [] → KeptBy secret next s [] → KeptBy secret next s moves
no_moves secret next s moves none k = subst (λ (ms : List Move). KeptBy secret next s ms) (sym none) k

pub keeps_each : KeepsStarting → KeepsMaking → KeepsServing → KeepsCommitting → Keeps
keeps_each start make serve commit secret w next s (starts changes true) moves differ h does says =
    no_moves secret next s moves says (start secret w next s changes h does)
keeps_each start make serve commit secret w next s (starts changes false) moves differ h does says = idle secret w next s moves h does says
keeps_each start make serve commit secret w next s (makes m) moves differ h does says =
    no_moves secret next s moves says (tt, make secret w next s m differ h does)
keeps_each start make serve commit secret w next s (serves m now changes given true) moves differ h does says =
    serve secret w next s m now changes given moves differ h does says
keeps_each start make serve commit secret w next s (serves m now changes given false) moves differ h does says = idle secret w next s moves h does says
keeps_each start make serve commit secret w next s (commits name what changes true) moves differ h does says =
    commit secret w next s name what changes moves differ h does.0 does.1 says
keeps_each start make serve commit secret w next s (commits name what changes false) moves differ h does says = idle secret w next s moves h does says

pub trace_from : Keeps → (secret : Bytes) → TokensDiffer secret → (steps : List Happens) (moves : List Move) (w next : World) (s : Ideal) → Holds secret w s
    → Trace secret w s steps moves next → KeptBy secret next s moves
trace_from keeps secret differ [] moves w next s h t = idle secret w next s moves h t.1 t.0
trace_from keeps secret differ (step ∷ steps) moves w next s h (mid, first, later, does, says, rest, is) =
    let one : KeptBy secret mid s first = keeps secret w mid s step first differ h does says in
    let others : KeptBy secret next (end_from s first) later = trace_from keeps secret differ steps later mid next (end_from s first) one.1 rest in
    subst (λ (ms : List Move). KeptBy secret next s ms) (sym is)
    (legal_joined s first later one.0 others.0, subst (λ (t : Ideal). Holds secret next t) (sym (end_from-append s first later)) others.1)

pub trace_keeps : HoldsFirst → Keeps → TraceKeeps
trace_keeps first keeps secret steps moves next differ t = trace_from keeps secret differ steps moves at_first next empty (first secret) t

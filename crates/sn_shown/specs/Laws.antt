-- What holds of all legal lists of moves, and of rows that show a state.
use Rattle.std.specs.Prelude.{◌≡◌, ℕ, List, Option}
use Rattle.sn_laws.specs.Lookups.{Bytes}
use Rattle.sn_laws.specs.Runs.{Legal, end}
use Rattle.sn_laws.specs.declared.ideal.Ideal.{Ideal}
use Rattle.sn_laws.specs.declared.moves.Move.{Move}
use Rattle.sn_rows.specs.Table.{Rows}
use Rattle.sn_shows.specs.Devices.{ShowsDevice}
use Rattle.sn_shown.specs.Closed.{AreClosed}
use Rattle.sn_shown.specs.Shown.{IsRegular}

-- the state that they lead to is regular
abbrev pub StatesRegular : Type 0
StatesRegular = (moves : List Move) → Legal moves → IsRegular (end moves)

-- an item is closed to a device under one set at most
abbrev pub OneClosed : Type 0
OneClosed = (devices : Bytes → Rows) (s : Ideal) (closed other : Bytes → Bytes → Option ℕ) → IsRegular s
    → ((name : Bytes) → ShowsDevice (devices name) s name) → AreClosed devices s closed → AreClosed devices s other
    → (name uuid : Bytes) → closed name uuid ≡ other name uuid

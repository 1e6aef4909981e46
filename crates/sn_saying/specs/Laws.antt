-- What holds of the moves of a batch.
use Rattle.std.specs.Prelude.{◌≡◌, List}
use Rattle.sn_laws.specs.declared.moves.Move.{Move}
use Rattle.sn_rows.specs.Table.{Rows}
use Rattle.sn_rows.specs.declared.change.Change.{Change}
use Rattle.sn_world.specs.Serving.{SaysServed}
use Rattle.sn_world.specs.World.{Made}

-- a batch of the server says one list of moves, over whatever rows of both ends
abbrev pub SaidOnce : Type 0
SaidOnce = (server device : Rows) (m : Made) (changes : List Change) (moves others : List Move)
    → SaysServed server device m changes moves → SaysServed server device m changes others → moves ≡ others

-- Where the batches of a store end in its bytes.
use Rattle.std.specs.Prelude.{ℕ, List, length, map}
use Rattle.sn_journal.specs.Image.{front}
use Rattle.sn_journal.specs.declared.owner.Owner.{Owner}
use Rattle.sn_rows.specs.Spelling.{spelled}
use Rattle.sn_rows.specs.declared.change.Change.{Change}

-- the place of the gate behind these batches: before it stand the header and, of each batch, its open gate, the length in four bytes
-- and the spelling
abbrev pub place_behind : Owner → List (List Change) → ℕ
place_behind owner batches = length (front owner (map spelled batches))

-- What a store keeps: rows, and the batches of changes on a disk that leave them.
use Rattle.std.specs.Prelude.{◌++◌, List, [], ◌∷◌}
use Rattle.sn_rows.specs.Table.{Rows, rows_after, rows_of_batches}
use Rattle.sn_rows.specs.declared.change.Change.{Change}

pub record Kept : Type 0 where
  pub rows : Rows
  pub batches : List (List Change)

-- with one batch more
abbrev pub with_batch : Kept → List Change → Kept
with_batch kept changes = record { rows = rows_after kept.rows changes; batches = kept.batches ++ changes ∷ [] }

-- these batches, with the rows that they leave
abbrev pub kept_of : List (List Change) → Kept
kept_of batches = record { rows = rows_of_batches batches; batches = batches }

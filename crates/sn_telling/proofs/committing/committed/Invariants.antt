use Rattle.std.proofs.Common.{◌≡◌, List}
use Rattle.sn_laws.specs.declared.moves.Move.{Move}
use Rattle.sn_row_map.specs.RowMaps.{row_in}
use Rattle.sn_rows.specs.Table.{Rows}
use Rattle.sn_rows.specs.declared.change.Change.{Change}
use Rattle.sn_telling.specs.Walking.{SaysBatches, rows_behind_all}
use Rattle.sn_telling.proofs.WalkLemmas.{SaysAll}
use Rattle.sn_telling.proofs.committing.committed.Given as goal

abbrev pub invariant-batches : goal.invariant-batches
invariant-batches l = record {
  says : SaysAll (λ (rows : Rows) (batches : List (List Change)) (moves : List Move). SaysBatches l.calling (row_in l.server) rows l.name l.answer batches moves)
      (row_in l.fn.device) l.yielded (row_in l.device) l.moves;
  rows : row_in l.device ≡ rows_behind_all (row_in l.fn.device) l.yielded;
}

use Rattle.std.proofs.Common.{◌≡◌, List, Some}
use Rattle.std.specs.Option.{option_copied}
use Rattle.sn_laws.specs.declared.moves.Move.{Move}
use Rattle.sn_row_map.specs.RowMaps.{row_in}
use Rattle.sn_rows.specs.Table.{Rows}
use Rattle.sn_rows.specs.declared.change.Change.{Change}
use Rattle.sn_telling.specs.Walking.{SaysGained, rows_behind_all}
use Rattle.sn_telling.proofs.WalkLemmas.{SaysAll}
use Rattle.sn_telling.proofs.gaining.all_served.Given as goal

abbrev pub invariant-batches : goal.invariant-batches
invariant-batches l = record {
  says : SaysAll (λ (server : Rows) (batches : List (List Change)) (moves : List Move). SaysGained server (row_in l.device) l.name (option_copied l.begins)
      (Some l.request) batches moves) (row_in l.fn.server) l.yielded (row_in l.server) l.moves;
  rows : row_in l.server ≡ rows_behind_all (row_in l.fn.server) l.yielded;
}

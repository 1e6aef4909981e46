use Rattle.std.proofs.Common.{◌≡◌, None, false}
use Rattle.sn_row_map.specs.RowMaps.{row_in}
use Rattle.sn_telling.specs.Walking.{requests_in}
use Rattle.sn_telling.proofs.WalkTurns.{WalksAll}
use Rattle.sn_telling.proofs.telling.call_moves.Given as goal

abbrev pub invariant-exchanges : goal.invariant-exchanges
invariant-exchanges l = record {
  walk : WalksAll l.calling l.name (record { server = row_in l.fn.server; rows = row_in l.fn.device; heard = false; answer = None; left = l.fn.batches }) l.yielded
      (record { server = row_in l.server; rows = row_in l.device; heard = l.walk.heard; answer = l.walk.answer; left = l.walk.left.items })
      l.walk.told.moves l.walk.told.begun;
  requests : l.walk.told.requests ≡ requests_in l.yielded;
}

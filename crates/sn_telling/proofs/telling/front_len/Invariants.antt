use Rattle.std.proofs.Common.{◌≡◌, ◌++◌, drop, take}
use Rattle.sn_telling.specs.Walking.{front, rest}
use Rattle.sn_telling.proofs.telling.front_len.Given as goal

abbrev pub invariant-batches : goal.invariant-batches
invariant-batches l = record {
  front : front l.fn.heard l.syncs l.batches ≡ take l.index l.batches ++ front l.heard l.syncs (drop l.index l.batches);
  rest : rest l.fn.heard l.syncs l.batches ≡ rest l.heard l.syncs (drop l.index l.batches);
}

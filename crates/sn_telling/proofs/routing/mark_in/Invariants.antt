use Rattle.std.proofs.Common.{◌≡◌, ◌-◌, ◌≤◌, ◌++◌, take, drop, length}
use Rattle.sn_server.specs.Routing.{path_of, query_of}
use Rattle.sn_telling.proofs.routing.mark_in.Given as goal

abbrev pub invariant-bytes : goal.invariant-bytes
invariant-bytes l = record {
  within : l.at ≤ length l.target;
  path : path_of l.target ≡ take l.at l.target ++ path_of (drop l.at l.target);
  query : query_of l.target ≡ query_of (drop l.at l.target);
}

abbrev pub decreases-bytes : goal.decreases-bytes
decreases-bytes l = length l.target - l.at

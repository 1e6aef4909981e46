use Rattle.std.specs.Prelude.{◌≡◌, ◌++◌, length}
use Rattle.sn_replay.specs.Keeping.{kept_all}
use Rattle.sn_replay.proofs.kept.keep_all.Given as goal

abbrev pub invariant-requests : goal.invariant-requests
invariant-requests l = record {
  place : l.place ≡ length l.yielded;
  kept : l.kept ≡ l.initial.kept ++ kept_all l.yielded l.begun;
}

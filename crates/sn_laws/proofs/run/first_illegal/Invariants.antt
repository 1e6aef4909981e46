use Rattle.std.proofs.Common.{◌≡◌, drop}
use Rattle.sn_laws.specs.Runs.{first_illegal, first_illegal_from}
use Rattle.sn_laws.proofs.run.first_illegal.Given as goal

abbrev pub invariant-loop-place : goal.invariant-loop-place
invariant-loop-place l = first_illegal_from l.place l.state (drop l.place l.moves) ≡ first_illegal l.moves

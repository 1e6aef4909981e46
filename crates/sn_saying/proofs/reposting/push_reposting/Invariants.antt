use Rattle.std.proofs.Common.{◌≡◌, ◌++◌, drop}
use Rattle.sn_adopted.specs.Moves.{reposting}
use Rattle.sn_saying.proofs.reposting.push_reposting.Given as goal

abbrev pub invariant-uuids : goal.invariant-uuids
invariant-uuids l = l.moves ++ reposting l.name (drop l.uuid-index l.uuids) ≡ l.fn.moves ++ reposting l.name l.uuids

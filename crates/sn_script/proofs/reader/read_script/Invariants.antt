use Rattle.std.proofs.Common.{map, take}
use Rattle.sn_script.specs.Scripts.{AreLinesFrom}
use Rattle.sn_script.proofs.reader.read_script.Given as goal

abbrev pub invariant-loop-place : goal.invariant-loop-place
invariant-loop-place l = AreLinesFrom 0 (map (λ t. t.now) (take l.place l.texts)) l.lines

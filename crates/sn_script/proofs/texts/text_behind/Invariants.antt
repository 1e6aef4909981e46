use Rattle.std.proofs.Common.{map, take}
use Rattle.sn_script.specs.Grammar.{AreLosses}
use Rattle.sn_script.proofs.texts.text_behind.Given as goal

abbrev pub invariant-loop-place : goal.invariant-loop-place
invariant-loop-place l = AreLosses (map (λ w. w.now) (take l.place l.words)) l.fates

use Rattle.std.proofs.Common.{map, take}
use Rattle.sn_script.specs.Grammar.{AreLosses}
use Rattle.sn_script.proofs.fates.losses.Given as goal

abbrev pub invariant-loop-word : goal.invariant-loop-word
invariant-loop-word l = AreLosses (map (λ w. w.now) (take l.word-index l.words)) l.fates

use Rattle.std.proofs.Common.{◌∙◌, ◌∷◌, ◌++◌, ap, arith}
use Rattle.std.specs.List.{flat_map}
use Rattle.sn_script.proofs.Lists.{joined, take_all}
use Rattle.sn_script.proofs.texts.joined.Goals as goal

pub returns : goal.returns
returns c =
    c.of_string.ensures ∙ c.loop-word.invariant
    ∙ ap (λ ws. c.args.first.now ++ flat_map (λ w. 32 ∷ w.now) ws) (take_all c.loop-word.word-index c.args.more.now (omega arith))
    ∙ joined (λ w. w.now) c.args.first.now c.args.more.now

use Rattle.sn_script.specs.Grammar.{IsLoss}
use Rattle.sn_script.specs.declared.script.Fate.TheVariants as fate
use Rattle.sn_script.proofs.Losses.{no_loss}
use Rattle.sn_script.proofs.Ordinals.{absent}
use Rattle.sn_script.proofs.fates.loss_of.Goals as goal

pub returns-in-None : goal.returns-in-None
returns-in-None c =
    no_loss c.args.word.now
    (absent (λ which. IsLoss c.args.word.now (fate.DropRequest which)) c.count_behind.result c.count_behind.ensures c.in_default.not-Some)
    c.in-None.ensures

use Rattle.std.proofs.Common.{subst, IsTrue, ◌↔◌}
use Rattle.sn_script.specs.Grammar.{IsDiskStop, IsFate, IsLoss}
use Rattle.sn_script.specs.declared.script.Fate.{Fate}
use Rattle.sn_script.proofs.Places.{first_decides, second_decides}
use Rattle.sn_script.proofs.fates.is_fate.Goals as goal

pub returns-then-is_loss : goal.returns-then-is_loss
unfolding IsFate
returns-then-is_loss c =
    first_decides {A = (loss : Fate) × IsLoss c.args.word.now loss} {B = IsDiskStop c.args.word.now} c.is_loss.result c.is_loss.ensures c.if-is_loss.true

pub returns-else-is_loss : goal.returns-else-is_loss
unfolding IsFate
returns-else-is_loss c =
    second_decides {A = (loss : Fate) × IsLoss c.args.word.now loss} {B = IsDiskStop c.args.word.now} c.is_loss.result c.is_disk_stop.result
    c.is_loss.ensures
    (subst (λ w. IsTrue c.is_disk_stop.result ↔ IsDiskStop w) c.as_bytes.ensures.value c.is_disk_stop.ensures)
    c.if-is_loss.false

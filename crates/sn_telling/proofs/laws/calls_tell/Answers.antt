use Rattle.sn_telling.proofs.ToldLaws.{calls_tell}
use Rattle.sn_telling.proofs.laws.calls_tell.Goals as goal

pub returns : goal.returns
returns c =
    calls_tell c.deletions_stay.ensures c.says_answered.ensures c.says_plainly.ensures c.said_once.ensures c.kinds_tell.ensures c.runs_in_order.ensures c.keeps.ensures

use Rattle.std.proofs.lemmas.Result.{on_ok_weaker}
use Rattle.sn_adopting.proofs.rekeying.push_local.Goals as goal

pub returns : goal.returns
returns c = on_ok_weaker c.push.result (λ added. (c.in_ok-change.change, c.in_ok-change.ensures, added)) c.push.ensures.ok

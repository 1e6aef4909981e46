use Rattle.std.proofs.lemmas.Result.{on_ok_weaker}
use Rattle.sn_adopting.proofs.RekeyLemmas.{drops_none, drops_one}
use Rattle.sn_adopting.proofs.rekeying.drop_asked.Goals as goal

pub returns-in-Some : goal.returns-in-Some
returns-in-Some c =
    on_ok_weaker c.push.result (λ added. drops_one c.args.sets.now.asked _ c.args.changes.now c.push.new.self c.in-Some.is added) c.push.ensures.ok

pub returns-in-None : goal.returns-in-None
returns-in-None c = drops_none c.args.sets.now.asked c.args.changes.now c.in-None.is

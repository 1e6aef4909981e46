use Rattle.sn_account.proofs.IncomingLemmas.{accepted_added}
use Rattle.sn_account.proofs.taking.add.Goals as goal

pub returns-in_ok-push-in-Accepted-2 : goal.returns-in_ok-push-in-Accepted-2
returns-in_ok-push-in-Accepted-2 c = λ rows.
    accepted_added rows c.args.taken.now c.in-Accepted.change c.in-Accepted.item c.in-Accepted.stamp c.push-in-Accepted.new.self
    c.push-in-Accepted-2.new.self c.args.effect c.in_ok-push-in-Accepted.ensures.ok c.in_ok-push-in-Accepted-2.ensures.ok c.in-Accepted.is

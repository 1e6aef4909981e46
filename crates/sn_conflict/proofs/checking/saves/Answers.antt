use Rattle.std.proofs.Common.{◌≡◌, rules}
use Rattle.sn_conflict.proofs.CheckLemmas.{saves_decided, saves_unstamped}
use Rattle.sn_conflict.proofs.checking.saves.Goals as goal

pub returns-in-Some : goal.returns-in-Some
returns-in-Some c =
    let named : c.args.posted.now.uuid ≡ c.args.item.now.uuid = search rules in
    saves_decided c.args.posted.now c.args.item.now c.in-Some.stamp c.is_not_above.result named (c.same_body.ensures.0 c.if-not-same_body.false)
    c.in-Some.ensures.some c.is_not_above.ensures

pub returns-in-None : goal.returns-in-None
returns-in-None c = saves_unstamped c.args.posted.now c.args.item.now c.in-None.ensures.none

use Rattle.std.proofs.Common.{◌≤◌, arith}
use Rattle.sn_sync.specs.Stamps.{last_stamp}
use Rattle.sn_account.proofs.IncomingLemmas.{not_holds, takes_new_ok, takes_unread}
use Rattle.sn_account.proofs.incoming.effect_of_news.Goals as goal

pub returns-then-not-branch-clause-effect : goal.returns-then-not-branch-clause-effect
returns-then-not-branch-clause-effect c = λ p now stamp news first.
    takes_unread c.args.present.now now c.args.number p c.args.item.now c.in_ok-unsaved.unsaved news
    (not_holds c.in_ok-is_own_body.field-0 c.in_ok-is_own_body.ensures c.if-not-branch.true) c.in_ok-unsaved.ensures

pub returns-clause-effect : goal.returns-clause-effect
returns-clause-effect c = λ p now stamp news first.
    let bound : c.args.stamp ≤ last_stamp = omega arith in
    takes_new_ok c.args.present.now now c.args.number p c.args.item.now c.unwrap_or.result c.args.stamp c.args.created c.accept.result news
    (c.in_ok-is_own_body.ensures.0 c.if-not-branch.false) stamp bound first c.unwrap_or.ensures c.accept.ensures.effect

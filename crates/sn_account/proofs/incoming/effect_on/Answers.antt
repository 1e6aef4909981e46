use Rattle.std.proofs.Common.{◌∙◌, inr, refl, sym}
use Rattle.sn_account.specs.Incoming.{IsNews}
use Rattle.sn_account.proofs.IncomingLemmas.{not_holds, takes_foreign, takes_other, takes_same}
use Rattle.sn_account.proofs.incoming.effect_on.Goals as goal

pub returns-then-account-number-clause-effect : goal.returns-then-account-number-clause-effect
returns-then-account-number-clause-effect c = λ p now stamp has.
    takes_foreign c.args.present.now now c.args.number p c.args.item.now c.in_ok-unsaved.unsaved c.args.row.now has (λ e. c.if-account-number.true (c.account.ensures ∙ e))
    c.in_ok-unsaved.ensures

pub returns-then-is_same-clause-effect : goal.returns-then-is_same-clause-effect
returns-then-is_same-clause-effect c = λ p now stamp has.
    takes_same c.args.present.now now c.args.number p c.args.item.now c.in_ok-saved.saved c.args.row.now has (sym c.account.ensures ∙ c.if-account-number.false)
    (c.is_same.ensures.0 c.if-is_same.true) c.in_ok-saved.ensures

pub returns-then-not-names-clause-effect : goal.returns-then-not-names-clause-effect
returns-then-not-names-clause-effect c = λ p now stamp has.
    takes_other c.args.present.now now c.args.number p c.args.item.now c.in_ok-server.server c.args.row.now c.weight.result has (sym c.account.ensures ∙ c.if-account-number.false)
    (not_holds c.is_same.result c.is_same.ensures c.if-is_same.false) (λ named. let e = c.if-not-names.ensures.1 named in cc) c.in_ok-server.ensures
    c.weight.ensures.is

pub returns-clause-effect : goal.returns-clause-effect
returns-clause-effect c = λ p now stamp has.
    let news : IsNews p c.args.number c.args.item.now =
    inr (c.args.row.now, (has, (sym c.account.ensures ∙ c.if-account-number.false)), not_holds c.is_same.result c.is_same.ensures c.if-is_same.false, c.if-not-names.ensures.0 refl) in
    c.effect_of_news.ensures.effect p now stamp news (c.args.row.now, has, c.created.ensures)

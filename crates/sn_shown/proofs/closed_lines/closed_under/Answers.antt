use Rattle.std.proofs.Common.{◌≡◌, sym, ◌∙◌, subst}
use Rattle.sn_items.specs.Items.{CarriesParams}
use Rattle.sn_laws.proofs.Facts.{clash}
use Rattle.sn_laws.specs.Lookups.{Bytes}
use Rattle.sn_shown.proofs.ClosedItems.{held_none, none_there, not_held_closed, unread_none}
use Rattle.sn_shown.proofs.Finds.{never, one_found}
use Rattle.sn_shown.proofs.closed_lines.closed_under.Goals as goal

pub returns-in_default-2 : goal.returns-in_default-2
returns-in_default-2 c = λ under shows.
    unread_none c.args.numbers.now c.args.holding.now c.args.item.now under shows c.in-Some.strings.now (sym c.in-Some.ensures)
    (λ k text opens.
    never c.in_ok-nonce.field-0 opens.set.params.pw_nonce
    (c.in_ok-nonce.ensures opens.set.params (subst (λ (t : Bytes). CarriesParams t opens.set.params) (sym c.as_str.ensures) opens.opens.carries.enc))
    c.in_default-2.is)

pub returns-in_default-set : goal.returns-in_default-set
returns-in_default-set c = λ under shows.
    unread_none c.args.numbers.now c.args.holding.now c.args.item.now under shows c.in-Some.strings.now (sym c.in-Some.ensures)
    (λ k text opens.
    let nonce : c.in-Some-2.nonce ≡ opens.set.params.pw_nonce =
    one_found c.in_ok-nonce.field-0 c.in-Some-2.nonce opens.set.params.pw_nonce c.in-Some-2.is
    (c.in_ok-nonce.ensures opens.set.params (subst (λ (t : Bytes). CarriesParams t opens.set.params) (sym c.as_str.ensures) opens.opens.carries.enc)) in
    never c.set.result k (c.set.ensures shows.accounts shows.account k opens.set shows.are shows.at opens.at (c.as_str-2.ensures ∙ nonce)) c.in_default-set.is)

pub returns-then-holds : goal.returns-then-holds
returns-then-holds c = λ under shows.
    held_none c.args.numbers.now c.args.holding.now c.args.item.now under shows c.in-Some.strings.now (sym c.in-Some.ensures) c.in-Some-set.number
    (λ k text opens.
    let nonce : c.in-Some-2.nonce ≡ opens.set.params.pw_nonce =
    one_found c.in_ok-nonce.field-0 c.in-Some-2.nonce opens.set.params.pw_nonce c.in-Some-2.is
    (c.in_ok-nonce.ensures opens.set.params (subst (λ (t : Bytes). CarriesParams t opens.set.params) (sym c.as_str.ensures) opens.opens.carries.enc)) in
    one_found c.set.result c.in-Some-set.number k c.in-Some-set.is
    (c.set.ensures shows.accounts shows.account k opens.set shows.are shows.at opens.at (c.as_str-2.ensures ∙ nonce)))
    (c.holds.ensures.0 c.if-holds.true)

pub returns : goal.returns
returns c = λ under shows.
    not_held_closed c.args.numbers.now c.args.holding.now c.args.item.now under shows c.in-Some.strings.now (sym c.in-Some.ensures) c.in-Some-set.number
    (λ k text opens.
    let nonce : c.in-Some-2.nonce ≡ opens.set.params.pw_nonce =
    one_found c.in_ok-nonce.field-0 c.in-Some-2.nonce opens.set.params.pw_nonce c.in-Some-2.is
    (c.in_ok-nonce.ensures opens.set.params (subst (λ (t : Bytes). CarriesParams t opens.set.params) (sym c.as_str.ensures) opens.opens.carries.enc)) in
    one_found c.set.result c.in-Some-set.number k c.in-Some-set.is
    (c.set.ensures shows.accounts shows.account k opens.set shows.are shows.at opens.at (c.as_str-2.ensures ∙ nonce)))
    (none_there c.args.item.now.latest (sym c.is_some.ensures ∙ c.if-is_some.false)) (λ one. clash c.holds.result (c.holds.ensures.1 one) c.if-holds.false)

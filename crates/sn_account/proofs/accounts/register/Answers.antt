use Rattle.sn_account.specs.States.{state_rows}
use Rattle.sn_account.proofs.RegisterLemmas.{begins, may_begin, refuses}
use Rattle.sn_account.proofs.accounts.register.Goals as goal

pub returns-in-Some : goal.returns-in-Some
returns-in-Some c = λ store stands.
    refuses (state_rows c.args.state.now) store c.args.params.now c.args.pw.now c.register_cause.result c.in-Some.answer c.new-changes.result
    (c.register_cause.ensures store stands) c.in-Some.is c.new-changes.ensures

pub begin-requires : goal.begin-requires
begin-requires c =
    (may_begin (state_rows c.args.state.now) c.store_of.result.now c.args.params.now c.register_cause.result
    (c.register_cause.ensures c.store_of.result.now c.store_of.ensures) c.in_default.is).1

pub returns : goal.returns
returns c = λ store stands.
    begins (state_rows c.args.state.now) store c.store_of.result.now c.args.params.now c.args.pw.now c.begin.result stands c.store_of.ensures
    (may_begin (state_rows c.args.state.now) store c.args.params.now c.register_cause.result (c.register_cause.ensures store stands) c.in_default.is)
    c.begin.ensures

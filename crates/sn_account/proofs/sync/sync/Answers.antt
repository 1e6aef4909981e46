use Rattle.sn_account.specs.Sessions.{IsSession}
use Rattle.sn_account.specs.States.{state_rows}
use Rattle.sn_account.proofs.SyncLemmas.{syncs_ok}
use Rattle.sn_account.proofs.sync.sync.Goals as goal

pub serve_bounded-requires-clause-there : goal.serve_bounded-requires-clause-there
serve_bounded-requires-clause-there c =
    let session : IsSession (state_rows c.args.state.now) c.args.token.now c.in-Some.number = rw c.in-Some.is at c.in_ok-number.ensures.some in
    (session.account, session.there)

pub returns : goal.returns
returns c = λ store has.
    let session : IsSession (state_rows c.args.state.now) c.args.token.now c.in-Some.number = rw c.in-Some.is at c.in_ok-number.ensures.some in
    syncs_ok (state_rows c.args.state.now) store c.args.token.now c.in-Some.number c.args.items.now c.args.limit c.args.sync_token.now
    c.args.cursor_token.now c.in-Ok.sync c.in-Ok-stamp_of.cursor c.args.now c.serve_bounded.result session c.in-Ok.ensures.ok
    c.in-Ok-stamp_of.ensures.ok (c.serve_bounded.ensures store has)

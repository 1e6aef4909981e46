use Rattle.std.proofs.Common.{◌≤◌, length, arith}
use Rattle.sn_account.specs.States.{state_rows}
use Rattle.sn_account.specs.Syncs.{most_items}
use Rattle.sn_account.proofs.SyncLemmas.{bounded_ok}
use Rattle.sn_account.proofs.sync.serve_bounded.Goals as goal

pub returns : goal.returns
returns c = λ store has.
    let few : length c.args.items.now ≤ most_items = omega arith in
    bounded_ok (state_rows c.args.state.now) store c.args.number c.args.items.now c.args.limit c.args.sync c.args.cursor c.args.now c.serve.result few
    c.in_default.ensures.none (c.serve.ensures store has)

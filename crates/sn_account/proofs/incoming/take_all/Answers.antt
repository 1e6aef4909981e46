use Rattle.std.proofs.Common.{◌<◌, ◌≤◌, arith}
use Rattle.sn_account.specs.Pages.{most_bytes}
use Rattle.sn_account.specs.States.{state_rows}
use Rattle.sn_account.specs.Syncs.{start}
use Rattle.sn_account.specs.Taking.{progress}
use Rattle.sn_account.proofs.IncomingLemmas.{takes_effect}
use Rattle.sn_account.proofs.TakesLemmas.{runs_out, takes_front, takes_more}
use Rattle.sn_account.proofs.incoming.take_all.Goals as goal

pub returns-then-taken-gt-MOST_BYTES-clause-some : goal.returns-then-taken-gt-MOST_BYTES-clause-some
returns-then-taken-gt-MOST_BYTES-clause-some c = λ store last.
    let over : most_bytes < c.items.taken.bytes = omega arith in
    takes_front c.args.present.now c.args.now c.args.number (start (state_rows c.args.state.now) store)
    (progress (state_rows c.args.state.now) c.items.taken) c.args.items.now c.items.item-index over (c.items.invariant store last)

pub returns-in-PastLast-clause-none : goal.returns-in-PastLast-clause-none
returns-in-PastLast-clause-none c = λ store last.
    let past = rw c.in-PastLast.is at c.in_ok-effect.ensures.effect in
    let looked : c.items.taken.bytes ≤ most_bytes = omega arith in
    runs_out c.args.present.now c.args.now c.args.number (start (state_rows c.args.state.now) store)
    (progress (state_rows c.args.state.now) c.items.taken) c.args.items.now c.items.item-index c.item-item.result (omega arith) c.item-item.is
    (c.items.invariant store last) looked past.0 past.1

pub items-preserved : goal.items-preserved
items-preserved c = λ store last.
    let looked : c.items.taken.bytes ≤ most_bytes = omega arith in
    takes_more c.args.present.now c.args.now c.args.number (start (state_rows c.args.state.now) store)
    (progress (state_rows c.args.state.now) c.items.taken) (progress (state_rows c.args.state.now) c.add.new.taken) c.args.items.now
    c.items.item-index c.item-item.result (omega arith) c.item-item.is (c.items.invariant store last) looked
    (takes_effect c.args.present.now c.args.now c.args.number (progress (state_rows c.args.state.now) c.items.taken)
    (progress (state_rows c.args.state.now) c.add.new.taken) c.item-item.result c.in_ok-effect.effect c.in_ok-effect.ensures.effect
    c.in_default.not-PastLast (c.in_ok-add.ensures (state_rows c.args.state.now)))

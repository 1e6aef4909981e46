use Rattle.std.proofs.Common.{rules, List, ℕ, subst}
use Rattle.sn_sync.specs.Refusals.{Caused}
use Rattle.sn_sync.specs.Requests.{RefusesRequest}
use Rattle.sn_server.specs.Routing.{GoesTo}
use Rattle.sn_server.proofs.Turning.{turns}
use Rattle.sn_server.proofs.routing.request_of.Goals as goal

pub returns-in-Err-clause-err : goal.returns-in-Err-clause-err
returns-in-Err-clause-err c =
    let goes : GoesTo c.args.message.now c.in-Some.route = (search rules, search rules) in
    turns c.args.message.now c.in-Some.route c.in-Err.error c.unread.result goes
    (subst (λ (text : List ℕ). Caused (RefusesRequest c.in-Some.route text) c.in-Err.error) c.text_of.ensures c.in-Err.ensures.err)
    c.unread.ensures

use Rattle.sn_exchange.proofs.AskLemmas.{body_heard, without_head}
use Rattle.sn_exchange.proofs.asking.read.Goals as goal

pub returns-in_default-clause-reply : goal.returns-in_default-clause-reply
returns-in_default-clause-reply c = without_head c.args.route c.args.bytes.now c.in_default.ensures.err

pub returns-clause-reply : goal.returns-clause-reply
returns-clause-reply c =
    body_heard c.args.route c.args.bytes.now c.in-Ok.status c.in-Ok.body.now c.read_body.result c.in-Ok.ensures.ok c.read_body.ensures.ok
    c.read_body.ensures.err

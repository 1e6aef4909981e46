use Rattle.sn_events.proofs.Redelivering.{again_came}
use Rattle.sn_events.proofs.ends.Ends.again.Goals as goal

pub returns : goal.returns
returns c = record {
  came = λ secret w s m differ stands made sent readable.
      again_came c.again_comes.ensures secret w s m c.args.now c.args.self c.args.request.now c.in_ok-link.field-0 c.in_ok-link.ensures differ stands made sent readable;
}

use Rattle.std.proofs.lemmas.Result.{IfOk-weaker}
use Rattle.sn_sync.specs.Fits.{FitsAnswer}
use Rattle.sn_sync.proofs.Fits.{accepted_fits}
use Rattle.sn_sync.proofs.answer_reader.read_answer.Goals as goal

pub returns-then-status-eq200-clause-fits : goal.returns-then-status-eq200-clause-fits
returns-then-status-eq200-clause-fits c =
    IfOk-weaker c.accepted.result _ (FitsAnswer c.args.route c.args.status)
    (λ a h. accepted_fits c.args.route c.args.status _ a c.if-status-eq200.true h) c.accepted.ensures.ok

use Rattle.std.proofs.Common.{refl}
use Rattle.sn_exchange.proofs.AskLemmas.{granted_fits, no_link}
use Rattle.sn_exchange.proofs.asking.read_body.Goals as goal

pub returns-in-Ok-clause-fits : goal.returns-in-Ok-clause-fits
returns-in-Ok-clause-fits c = granted_fits c.args.route c.args.status c.in-Ok.answer c.in-Ok.ensures.fits

pub returns-in-Err-clause-err : goal.returns-in-Err-clause-err
returns-in-Err-clause-err c = (c.in-Err.error, c.in-Err.ensures.err, c.unread.ensures)

pub returns-in-Err-clause-link : goal.returns-in-Err-clause-link
returns-in-Err-clause-link c = λ is. no_link c.in-Err.error c.unread.result _ c.unread.ensures refl is

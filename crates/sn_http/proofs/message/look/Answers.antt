use Rattle.sn_http.proofs.Finding.{no_more, none_in_blank}
use Rattle.sn_http.proofs.message.look.Goals as goal

pub returns-else-may_end_past-clause-not_yet : goal.returns-else-may_end_past-clause-not_yet
returns-else-may_end_past-clause-not_yet c = λ _. no_more c.args.front.now c.args.seen c.requires.none (c.may_end_past.ensures.within c.if-may_end_past.false)

pub returns-then-blank-front-clause-not_yet : goal.returns-then-blank-front-clause-not_yet
returns-then-blank-front-clause-not_yet c = λ _. none_in_blank c.args.front.now c.args.blank c.if-blank-front.true c.requires.blank

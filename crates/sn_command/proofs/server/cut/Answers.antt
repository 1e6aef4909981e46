use Rattle.sn_command.proofs.ServerLemmas.{no_cut, one_cut, some_cut}
use Rattle.sn_command.proofs.server.cut.Goals as goal

pub returns-clause-some : goal.returns-clause-some
returns-clause-some c = some_cut c.args.text.now c.split_once.result c.split_once.ensures.cases

pub returns-clause-one : goal.returns-clause-one
returns-clause-one c = one_cut c.args.text.now c.split_once.result c.split_once.ensures.cases

pub returns-clause-none : goal.returns-clause-none
returns-clause-none c = no_cut c.args.text.now c.split_once.result c.split_once.ensures.cases

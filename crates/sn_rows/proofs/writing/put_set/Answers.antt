use Rattle.std.proofs.Common.{rules, arith}
use Rattle.sn_rows.proofs.FormLemmas.{set_form}
use Rattle.sn_rows.proofs.writing.put_set.Goals as goal

pub returns-clause-form : goal.returns-clause-form
returns-clause-form c = set_form c.args.row.now (omega arith) (search rules) (search rules) (search rules)

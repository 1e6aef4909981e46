use Rattle.std.proofs.Common.{rules, arith}
use Rattle.sn_rows.proofs.FormLemmas.{owner_form}
use Rattle.sn_rows.proofs.writing.put_owner.Goals as goal

pub returns-clause-form : goal.returns-clause-form
returns-clause-form c = owner_form c.args.row.now (search rules) (omega arith)

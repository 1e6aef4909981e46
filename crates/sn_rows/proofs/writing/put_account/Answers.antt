use Rattle.std.proofs.Common.{rules, arith}
use Rattle.sn_rows.proofs.FormLemmas.{account_form}
use Rattle.sn_rows.proofs.writing.put_account.Goals as goal

pub returns-clause-form : goal.returns-clause-form
returns-clause-form c = account_form c.args.row.now (omega arith) (search rules)

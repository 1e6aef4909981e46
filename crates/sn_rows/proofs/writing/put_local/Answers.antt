use Rattle.std.proofs.Common.{rules}
use Rattle.sn_rows.proofs.FormLemmas.{local_form}
use Rattle.sn_rows.proofs.writing.put_local.Goals as goal

pub returns-clause-form : goal.returns-clause-form
returns-clause-form c = local_form c.args.row.now (search rules)

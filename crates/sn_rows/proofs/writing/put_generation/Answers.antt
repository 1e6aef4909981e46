use Rattle.std.proofs.Common.{arith}
use Rattle.sn_rows.proofs.FormLemmas.{generation_form}
use Rattle.sn_rows.proofs.writing.put_generation.Goals as goal

pub returns-clause-form : goal.returns-clause-form
returns-clause-form c = generation_form c.args.row.now (omega arith)

use Rattle.std.proofs.Common.{arith}
use Rattle.sn_rows.proofs.EqualColumns.{is_found, is_only, is_refused}
use Rattle.sn_rows.proofs.reading.read.Goals as goal

pub returns-clause-found : goal.returns-clause-found
returns-clause-found c = is_found c.args.bytes.now c.all_of.result (λ i. omega (arith, c.type_inv.bytes i)) c.all_of.ensures

pub returns-clause-only : goal.returns-clause-only
returns-clause-only c = λ changes form e. is_only c.args.bytes.now changes c.all_of.result form e c.all_of.ensures

pub returns-clause-refused : goal.returns-clause-refused
returns-clause-refused c = is_refused c.args.bytes.now c.all_of.result (λ i. omega (arith, c.type_inv.bytes i)) c.all_of.ensures

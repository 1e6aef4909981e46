use Rattle.std.proofs.Common.{rules}
use Rattle.sn_script.proofs.Numerals.{out_of_bounds}
use Rattle.sn_script.proofs.commands.cost_of.Goals as goal

pub returns-else-cost-ge1-clause-none : goal.returns-else-cost-ge1-clause-none
returns-else-cost-ge1-clause-none c = search (rules, out_of_bounds c.args.digits.now c.in-Some.cost c.in-Some.ensures.some)

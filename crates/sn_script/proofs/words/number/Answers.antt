use Rattle.std.proofs.Common.{rules}
use Rattle.sn_script.proofs.Numerals.{spelled, read, no_number}
use Rattle.sn_script.proofs.words.number.Goals as goal

pub returns-then-is_number-clause-some : goal.returns-then-is_number-clause-some
returns-then-is_number-clause-some c = search (rules, spelled c.args.word.now c.parse.result c.parse.ensures.value.0)

pub returns-then-is_number-clause-none : goal.returns-then-is_number-clause-none
returns-then-is_number-clause-none c = search (rules, read c.args.word.now c.parse.result c.parse.ensures.value.0)

pub returns-else-is_number-clause-none : goal.returns-else-is_number-clause-none
returns-else-is_number-clause-none c = search (rules, no_number c.args.word.now)

use Rattle.std.proofs.Common.{rules}
use Rattle.sn_command.proofs.Numerals.{spelled, read, first_digit, positive}
use Rattle.sn_command.proofs.number.positive_number.Goals as goal

pub returns-then-begins_with_nonzero_digit-clause-some :
    goal.returns-then-begins_with_nonzero_digit-clause-some
returns-then-begins_with_nonzero_digit-clause-some c = search (rules, spelled c.args.text.now c.parse.result c.parse.ensures.value.0)

pub returns-then-begins_with_nonzero_digit-clause-none :
    goal.returns-then-begins_with_nonzero_digit-clause-none
returns-then-begins_with_nonzero_digit-clause-none c = search (rules, read c.args.text.now c.parse.result c.parse.ensures.value.0)

pub returns-then-begins_with_nonzero_digit-clause-positive :
    goal.returns-then-begins_with_nonzero_digit-clause-positive
returns-then-begins_with_nonzero_digit-clause-positive c =
    search (rules, positive c.args.text.now, spelled c.args.text.now c.parse.result c.parse.ensures.value.0)

pub returns-else-begins_with_nonzero_digit-clause-none :
    goal.returns-else-begins_with_nonzero_digit-clause-none
returns-else-begins_with_nonzero_digit-clause-none c same n some small is =
    search (rules, first_digit n some small, is)

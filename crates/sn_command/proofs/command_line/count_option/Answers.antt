use Rattle.std.proofs.Common.{◌≡◌, ◌<◌, ◌^◌, ℕ, Some, codes, sym, ap, ◌∙◌, arith, rules}
use Rattle.sn_command.specs.Syntax.{value_of}
use Rattle.sn_command.proofs.OneLine.{one_number}
use Rattle.sn_command.proofs.command_line.count_option.Goals as goal

pub returns-else-count-le-MOST_EVENTS-clause-none : goal.returns-else-count-le-MOST_EVENTS-clause-none
returns-else-count-le-MOST_EVENTS-clause-none c words count given some most is =
    let found : ℕ = c.in-Some-positive_number.count in
    let fits : found < 2 ^ 64 = search rules in
    let same : found ≡ count = one_number found count (value_of words (codes "count")) fits (omega (arith, most))
    (sym (c.in-Some.ensures words given) ∙ ap Some c.in-Some-positive_number.ensures.some) is in
    omega (arith, same, c.if-count-le-MOST_EVENTS.false, most)

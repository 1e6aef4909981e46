use Rattle.std.proofs.Common.{◌≡◌, ◌<◌, ◌^◌, ℕ, Some, codes, sym, ap, ◌∙◌, arith, rules}
use Rattle.sn_command.specs.Syntax.{value_of}
use Rattle.sn_command.proofs.OneLine.{one_number}
use Rattle.sn_command.proofs.command_line.number_option.Goals as goal

pub returns-else-number-le-MOST_NUMBER-clause-none : goal.returns-else-number-le-MOST_NUMBER-clause-none
returns-else-number-le-MOST_NUMBER-clause-none c words number given most is =
    let found : ℕ = c.in-Some-whole_number.number in
    let fits : found < 2 ^ 64 = search rules in
    let same : found ≡ number = one_number found number (value_of words (codes "number")) fits (omega (arith, most))
    (sym (c.in-Some.ensures words given) ∙ ap Some c.in-Some-whole_number.ensures.some) is in
    omega (arith, same, c.if-number-le-MOST_NUMBER.false, most)

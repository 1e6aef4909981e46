use Rattle.std.proofs.Common.{◌≡◌, ◌<◌, ◌^◌, ℕ, Some, codes, sym, ap, ◌∙◌, arith, rules}
use Rattle.sn_command.specs.Syntax.{value_of}
use Rattle.sn_command.proofs.OneLine.{one_number}
use Rattle.sn_command.proofs.command_line.requests_option.Goals as goal

pub returns-else-requests-le-MOST_REQUESTS-clause-none : goal.returns-else-requests-le-MOST_REQUESTS-clause-none
returns-else-requests-le-MOST_REQUESTS-clause-none c words requests given some most is =
    let found : ℕ = c.in-Some-positive_number.requests in
    let fits : found < 2 ^ 64 = search rules in
    let same : found ≡ requests = one_number found requests (value_of words (codes "requests")) fits (omega (arith, most))
    (sym (c.in-Some.ensures words given) ∙ ap Some c.in-Some-positive_number.ensures.some) is in
    omega (arith, same, c.if-requests-le-MOST_REQUESTS.false, most)

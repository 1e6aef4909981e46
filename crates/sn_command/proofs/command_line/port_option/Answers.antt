use Rattle.std.proofs.Common.{◌≡◌, ◌<◌, ◌^◌, ℕ, Some, codes, sym, ap, ◌∙◌, arith, rules}
use Rattle.sn_command.specs.Syntax.{value_of}
use Rattle.sn_command.proofs.OneLine.{one_number}
use Rattle.sn_command.proofs.command_line.port_option.Goals as goal

pub returns-else-port-lt65536-clause-none : goal.returns-else-port-lt65536-clause-none
returns-else-port-lt65536-clause-none c words port given small is =
    let found : ℕ = c.in-Some-whole_number.port in
    let fits : found < 2 ^ 64 = search rules in
    let same : found ≡ port = one_number found port (value_of words (codes "port")) fits (omega (arith, small))
    (sym (c.in-Some.ensures words given) ∙ ap Some c.in-Some-whole_number.ensures.some) is in
    omega (arith, same, c.if-port-lt65536.false, small)

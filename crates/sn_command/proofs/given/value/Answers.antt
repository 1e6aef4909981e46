use Rattle.std.proofs.Common.{ℕ, List, sym, ap, ◌∙◌, option_and_then}
use Rattle.clap.proofs.WalkLemmas.{first_value-rows}
use Rattle.clap.specs.Matches.{found_of}
use Rattle.clap.specs.Walk.{Row, first_of}
use Rattle.sn_command.proofs.given.value.Goals as goal

pub returns : goal.returns
returns c words given =
    c.get_str.ensures ∙ first_value-rows (found_of c.args.given.now.options) c.args.name.now
    ∙ sym (ap (option_and_then (λ (named : List ℕ × List Row). first_of c.args.name.now named.1)) given.subcommand)

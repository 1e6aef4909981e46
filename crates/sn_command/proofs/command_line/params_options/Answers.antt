use Rattle.sn_command.proofs.command_line.params_options.Goals as goal

pub returns-in_default-cost_option-clause-none : goal.returns-in_default-cost_option-clause-none
returns-in_default-cost_option-clause-none c words identifier nonce cost given gives =
    c.in_default-cost_option.ensures.none words cost given gives.cost_fits gives.cost_given

use Rattle.sn_command.proofs.command_line.seal_command.Goals as goal

pub returns-in-None-params_options-clause-none : goal.returns-in-None-params_options-clause-none
returns-in-None-params_options-clause-none c words given line spelled =
    c.in-None-params_options.ensures.none words line.identifier line.nonce line.cost given spelled.params

use Rattle.std.proofs.Common.{◌∙◌}
use Rattle.sn_command.proofs.DeviceNames.{sign_in_given}
use Rattle.sn_command.proofs.device_line.sign_in_command.Goals as goal

pub returns-in_err-server-clause-none : goal.returns-in_err-server-clause-none
returns-in_err-server-clause-none c = rw c.from_residual.ensures (λ words task given named gives.
    let found = sign_in_given words task (named ∙ c.requires) gives in
    c.in_err-server.ensures.none words found.0 given found.2.server_given)

pub returns-in_err-identifier-clause-none : goal.returns-in_err-identifier-clause-none
returns-in_err-identifier-clause-none c = rw c.from_residual-in_err-identifier.ensures (λ words task given named gives.
    let found = sign_in_given words task (named ∙ c.requires) gives in
    c.in_err-identifier.ensures.none words found.1 given found.2.identifier_given)

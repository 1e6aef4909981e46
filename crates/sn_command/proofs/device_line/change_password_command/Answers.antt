use Rattle.std.proofs.Common.{◌∙◌}
use Rattle.sn_command.proofs.DeviceNames.{change_password_given}
use Rattle.sn_command.proofs.device_line.change_password_command.Goals as goal

pub returns-in_err-server-clause-none : goal.returns-in_err-server-clause-none
returns-in_err-server-clause-none c = rw c.from_residual.ensures (λ words task given named gives.
    let found = change_password_given words task (named ∙ c.requires) gives in
    c.in_err-server.ensures.none words found.0 given found.2.server_given)

pub returns-in_err-cost-clause-none : goal.returns-in_err-cost-clause-none
returns-in_err-cost-clause-none c = rw c.from_residual-in_err-cost.ensures (λ words task given named gives.
    let found = change_password_given words task (named ∙ c.requires) gives in
    c.in_err-cost.ensures.none words found.1 given found.2.cost_given)

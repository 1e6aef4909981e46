use Rattle.std.proofs.Common.{◌∙◌}
use Rattle.sn_command.proofs.DeviceNames.{sync_given}
use Rattle.sn_command.proofs.device_line.sync_command.Goals as goal

pub returns-in_err-server-clause-none : goal.returns-in_err-server-clause-none
returns-in_err-server-clause-none c = rw c.from_residual.ensures (λ words task given named gives.
    let found = sync_given words task (named ∙ c.requires) gives in
    c.in_err-server.ensures.none words found.0 given found.1)

use Rattle.std.specs.Prelude.{◌≡◌, IfOk, ◌==◌}
use Rattle.std.proofs.Common.{subst, sym}
use Rattle.sn_laws.specs.Lookups.{is_device}
use Rattle.sn_laws.specs.Moves.{after, changed_where, without}
use Rattle.sn_laws.proofs.effects.devices_after.Goals as goal

pub returns-in-Retire : goal.returns-in-Retire
returns-in-Retire c =
    subst (λ m. IfOk c.with_retired.result (λ changed. changed ≡ (after c.args.state.now m).devices)) (sym c.in-Retire.is)
    (subst (λ devices. IfOk c.with_retired.result (λ changed. changed ≡ changed_where (is_device c.in-Retire.device)
    (λ d. record d { held = without (λ m. m == c.in-Retire.number) d.held }) devices)) c.as_slice-devices.ensures c.with_retired.ensures)

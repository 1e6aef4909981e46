use Rattle.std.proofs.Common.{◌≡◌, take}
use Rattle.std.specs.Prelude.{◌==◌}
use Rattle.sn_laws.specs.Lookups.{is_device}
use Rattle.sn_laws.specs.Moves.{changed_where, without}
use Rattle.sn_laws.proofs.rekeyed.with_retired.Given as goal

abbrev pub invariant-loop-device : goal.invariant-loop-device
invariant-loop-device l =
    l.next ≡ changed_where (is_device l.name) (λ d. record d { held = without (λ m. m == l.number) d.held }) (take l.device-index l.devices)

use Rattle.std.proofs.Common.{◌≡◌, take, [], ◌∷◌, ◌++◌}
use Rattle.sn_laws.specs.Lookups.{is_device}
use Rattle.sn_laws.specs.Moves.{changed_where}
use Rattle.sn_laws.proofs.effects.with_set.Given as goal

abbrev pub invariant-loop-device : goal.invariant-loop-device
invariant-loop-device l = l.next ≡ changed_where (is_device l.name) (λ e. record e { held = e.held ++ l.number ∷ [] }) (take l.device-index l.devices)

use Rattle.std.proofs.Common.{subst}
use Rattle.sn_laws.specs.Lookups.{Bytes}
use Rattle.sn_telling.specs.Walking.{IsReadAs}
use Rattle.sn_telling.proofs.telling.push_exchange.Goals as goal

pub returns : goal.returns
returns c = c.push_turn.ensures (subst (λ (bytes : Bytes). IsReadAs bytes c.in_ok-request.request) c.as_slice.ensures c.in_ok-request.ensures)

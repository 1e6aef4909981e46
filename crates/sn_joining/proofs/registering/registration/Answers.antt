use Rattle.std.proofs.Common.{ap}
use Rattle.sn_string.specs.declared.params.Params.{Params}
use Rattle.sn_sync.specs.declared.request.Request.TheVariants as request
use Rattle.sn_joining.proofs.registering.registration.Goals as goal

pub returns-clause-request : goal.returns-clause-request
returns-clause-request c = ap (λ (p : Params). request.Register p c.in_ok-set.set.pw) c.in_ok-params.ensures

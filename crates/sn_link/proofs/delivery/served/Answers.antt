use Rattle.std.proofs.Common.{None}
use Rattle.sn_link.proofs.Delivering.{none_served}
use Rattle.sn_link.specs.Deliveries.{serves}
use Rattle.sn_link.proofs.delivery.served.Goals as goal

pub returns-in-Err-clause-delivers : goal.returns-in-Err-clause-delivers
returns-in-Err-clause-delivers c = λ kept stands. (serves kept, stands, (None, none_served c.args.now kept c.args.request.now, tt))

use Rattle.std.proofs.Common.{arith}
use Rattle.sn_account.proofs.PlaceLemmas.{bounds_forward, bounds_whole}
use Rattle.sn_account.proofs.places.bounds_above.Goals as goal

pub returns-clause-forward : goal.returns-clause-forward
returns-clause-forward c = bounds_forward c.args.account c.args.above c.max-uuid.result (omega arith)

pub returns-clause-whole : goal.returns-clause-whole
returns-clause-whole c = λ stamp uuid over low. bounds_whole c.args.account c.args.above c.max-uuid.result stamp uuid over low

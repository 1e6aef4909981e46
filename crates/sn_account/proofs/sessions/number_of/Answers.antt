use Rattle.sn_account.proofs.AccountUuids.{number-account}
use Rattle.sn_account.proofs.sessions.number_of.Goals as goal

pub returns-clause-number : goal.returns-clause-number
returns-clause-number c = number-account c.args.uuid c.as_u64_pair-low.result.1 c.as_u64_pair-low.ensures.low

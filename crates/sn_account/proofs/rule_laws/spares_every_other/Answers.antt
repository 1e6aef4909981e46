use Rattle.sn_account.proofs.RuleSpares.{spares_every_other}
use Rattle.sn_account.proofs.rule_laws.spares_every_other.Goals as goal

pub returns : goal.returns
returns c = spares_every_other

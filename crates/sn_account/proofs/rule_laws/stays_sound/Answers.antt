use Rattle.sn_account.proofs.RuleSound.{stays_sound}
use Rattle.sn_account.proofs.rule_laws.stays_sound.Goals as goal

pub returns : goal.returns
returns c = stays_sound

use Rattle.sn_account.proofs.SoundChanging.{changes_soundly}
use Rattle.sn_account.proofs.sound_laws.changes_soundly.Goals as goal

pub returns : goal.returns
returns c = changes_soundly

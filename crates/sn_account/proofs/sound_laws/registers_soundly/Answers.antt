use Rattle.sn_account.proofs.SoundRegistering.{registers_soundly}
use Rattle.sn_account.proofs.sound_laws.registers_soundly.Goals as goal

pub returns : goal.returns
returns c = registers_soundly

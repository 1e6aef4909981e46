use Rattle.sn_aes.proofs.TableRows.{sbox_at}
use Rattle.sn_aes.proofs.substitution.substitute.Goals as goal

pub returns : goal.returns
returns c = sbox_at c.args.x c.requires

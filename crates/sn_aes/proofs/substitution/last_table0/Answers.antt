use Rattle.sn_aes.proofs.TableRows.{last_table0_at}
use Rattle.sn_aes.proofs.substitution.last_table0.Goals as goal

pub returns : goal.returns
returns c = last_table0_at c.args.x c.requires

use Rattle.sn_aes.proofs.TableRows.{table0_at}
use Rattle.sn_aes.proofs.substitution.table0.Goals as goal

pub returns : goal.returns
returns c = table0_at c.args.x c.requires

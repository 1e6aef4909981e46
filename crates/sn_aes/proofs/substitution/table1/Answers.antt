use Rattle.sn_aes.proofs.TableRows.{table1_at}
use Rattle.sn_aes.proofs.substitution.table1.Goals as goal

pub returns : goal.returns
returns c = table1_at c.args.x c.requires

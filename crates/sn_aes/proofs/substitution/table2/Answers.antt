use Rattle.sn_aes.proofs.TableRows.{table2_at}
use Rattle.sn_aes.proofs.substitution.table2.Goals as goal

pub returns : goal.returns
returns c = table2_at c.args.x c.requires

use Rattle.sn_aes.proofs.TableRows.{table3_at}
use Rattle.sn_aes.proofs.substitution.table3.Goals as goal

pub returns : goal.returns
returns c = table3_at c.args.x c.requires

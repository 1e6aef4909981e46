use Rattle.sn_aes.proofs.TableRows.{last_table1_at}
use Rattle.sn_aes.proofs.substitution.last_table1.Goals as goal

pub returns : goal.returns
returns c = last_table1_at c.args.x c.requires

use Rattle.sn_aes.proofs.TableRows.{last_table2_at}
use Rattle.sn_aes.proofs.substitution.last_table2.Goals as goal

pub returns : goal.returns
returns c = last_table2_at c.args.x c.requires

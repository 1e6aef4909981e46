use Rattle.sn_aes.proofs.TableRows.{last_table3_at}
use Rattle.sn_aes.proofs.substitution.last_table3.Goals as goal

pub returns : goal.returns
returns c = last_table3_at c.args.x c.requires

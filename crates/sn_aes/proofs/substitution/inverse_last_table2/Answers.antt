use Rattle.sn_aes.proofs.TableRows.{inverse_last_table2_at}
use Rattle.sn_aes.proofs.substitution.inverse_last_table2.Goals as goal

pub returns : goal.returns
returns c = inverse_last_table2_at c.args.x c.requires

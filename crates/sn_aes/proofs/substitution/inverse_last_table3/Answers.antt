use Rattle.sn_aes.proofs.TableRows.{inverse_last_table3_at}
use Rattle.sn_aes.proofs.substitution.inverse_last_table3.Goals as goal

pub returns : goal.returns
returns c = inverse_last_table3_at c.args.x c.requires

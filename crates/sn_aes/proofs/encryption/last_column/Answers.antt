use Rattle.sn_aes.proofs.Words.{last_column_bytes}
use Rattle.sn_aes.proofs.encryption.last_column.Goals as goal

pub returns : goal.returns
returns c =
    last_column_bytes _ _ _ _ _ _ _ _ c.args.key
    (rw c.byte0.ensures at c.last_table0.ensures) (rw c.byte1.ensures at c.last_table1.ensures)
    (rw c.byte2.ensures at c.last_table2.ensures) (rw c.byte3.ensures at c.last_table3.ensures)

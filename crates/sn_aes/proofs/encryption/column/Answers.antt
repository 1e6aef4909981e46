use Rattle.sn_aes.proofs.Words.{column_bytes}
use Rattle.sn_aes.proofs.encryption.column.Goals as goal

pub returns : goal.returns
returns c =
    column_bytes _ _ _ _ _ _ _ _ c.args.key
    (rw c.byte0.ensures at c.table0.ensures) (rw c.byte1.ensures at c.table1.ensures)
    (rw c.byte2.ensures at c.table2.ensures) (rw c.byte3.ensures at c.table3.ensures)

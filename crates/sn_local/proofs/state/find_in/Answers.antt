use Rattle.std.proofs.Common.{arith}
use Rattle.sn_row_map.specs.RowMaps.{row_in}
use Rattle.sn_local.proofs.StateLemmas.{free_of}
use Rattle.sn_local.proofs.state.find_in.Goals as goal

pub returns-clause-none : goal.returns-clause-none
returns-clause-none c =
    free_of c.args.index.now (row_in c.args.rows.now) c.args.uuid c.numbers-number-items.result.now c.numbers.number-index c.requires.indexed
    c.numbers-number-items.ensures (omega arith) c.numbers.invariant

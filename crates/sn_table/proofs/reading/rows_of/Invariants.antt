use Rattle.std.proofs.Common.{length}
use Rattle.sn_row_map.specs.RowMaps.{IsTidy}
use Rattle.sn_table.specs.Reading.{AreTaken}
use Rattle.sn_table.proofs.reading.rows_of.Given as goal

abbrev pub invariant-payloads : goal.invariant-payloads
invariant-payloads l = record { taken : AreTaken l.owner l.batches l.payloads l.rows l.gate; tidy : IsTidy l.rows }

abbrev pub decreases-payloads : goal.decreases-payloads
decreases-payloads l = length l.payloads

-- No row so far has the item as what was sent.
use Rattle.std.proofs.Common.{length}
use Rattle.sn_row_map.specs.Steps.{lent}
use Rattle.sn_rows.specs.declared.kind.RowKind.TheVariants as kind
use Rattle.sn_saying.specs.Sent.{IsSentAt}
use Rattle.sn_saying.proofs.WalkLemmas.{NonePassed, ahead}
use Rattle.sn_saying.proofs.sent.is_sent.Given as goal

abbrev pub invariant-items : goal.invariant-items
invariant-items l = NonePassed (IsSentAt l.base l.uuid l.row) l.device kind.Local (lent l.local)

abbrev pub decreases-items : goal.decreases-items
decreases-items l = length (ahead l.device (lent l.local))

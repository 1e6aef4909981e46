use Rattle.std.proofs.Common.{None, ap, ◌∙◌}
use Rattle.sn_rows.specs.Facts.{last_counts}
use Rattle.sn_rows.specs.Table.{row_after}
use Rattle.sn_rows.proofs.laws.last_counts.Goals as goal

pub returns : goal.returns
returns c = λ changes key change l. ap (λ xs. row_after None key xs) l.parts ∙ last_counts None key l.before change l.after l.named l.spared

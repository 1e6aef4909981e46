use Rattle.sn_local.proofs.IndexLemmas.{put_indexed}
use Rattle.sn_local.proofs.index.Index.add_change.Goals as goal

pub returns-clause-listed : goal.returns-clause-listed
returns-clause-listed c = put_indexed c.add_row.new.self c.args.change.now c.in-Put.row c.in-Put.is c.in_ok-add_row.ensures.listed

use Rattle.sn_server.proofs.Opening.{kind_empty}
use Rattle.sn_server.proofs.loading.is_kind_empty.Goals as goal

pub returns : goal.returns
returns c = kind_empty c.args.rows.now c.args.kind c.first.result c.is_none.result c.first.ensures.first c.is_none.ensures

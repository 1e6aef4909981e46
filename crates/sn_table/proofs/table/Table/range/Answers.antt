use Rattle.sn_table.proofs.TableLemmas.{range_of_kind}
use Rattle.sn_table.proofs.table.Table.range.Goals as goal

pub returns-clause-kind : goal.returns-clause-kind
returns-clause-kind g c = range_of_kind c.args.self.now.rows c.args.kind c.range.result c.range.ensures c.args.self.now.kinds

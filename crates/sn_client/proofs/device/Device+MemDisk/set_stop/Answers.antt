use Rattle.std.proofs.Common.{sym, subst, ◌∙◌}
use Rattle.sn_row_map.specs.RowMaps.{row_in}
use Rattle.sn_row_map.specs.declared.row_map.RowMap.{RowMap}
use Rattle.sn_local.specs.Index.{Indexes}
use Rattle.sn_client.proofs.device.Device+MemDisk.set_stop.Goals as goal

pub invariant_of-self : goal.invariant_of-self
invariant_of-self c = record {
  owner = c.set_stop.ensures.owner ∙ c.args.self.now.owner;
  indexed = subst (λ (m : RowMap). Indexes c.args.self.now.index (row_in m)) (sym c.set_stop.ensures.rows) c.args.self.now.indexed;
}

use Rattle.std.specs.Prelude.{List, All}
use Rattle.std.proofs.Common.{sym, ap, subst, ◌∙◌}
use Rattle.std.proofs.Math.Path.{fun_ext}
use Rattle.sn_journal.specs.declared.owner.Owner.{Owner}
use Rattle.sn_row_map.specs.RowMaps.{row_in}
use Rattle.sn_row_map.specs.declared.row_map.RowMap.{RowMap}
use Rattle.sn_rows.specs.Table.{Rows, rows_after}
use Rattle.sn_rows.specs.declared.change.Change.{Change}
use Rattle.sn_table.specs.Batches.{IsOf}
use Rattle.sn_table.specs.Logs.{log_owner}
use Rattle.sn_table.specs.Tables.{table_rows}
use Rattle.sn_local.specs.Index.{Indexes}
use Rattle.sn_client.proofs.device.Device.commit.Goals as goal

pub commit-requires : goal.commit-requires
commit-requires g c = subst (λ (o : Owner). All (IsOf o) c.args.changes.items) (sym c.args.self.owner) c.requires

pub invariant_of-device : goal.invariant_of-device
invariant_of-device g c = record { owner = c.args.self.owner; indexed = c.add_all.ensures.kept (row_in (table_rows c.args.self.table)) c.args.self.indexed }

pub invariant_of-result : goal.invariant_of-result
invariant_of-result g c = record {
  owner = c.in-Done.ensures.owner ∙ c.args.self.owner;
  indexed = subst (λ (m : RowMap). Indexes c.settle.new.self (row_in m)) c.rows.ensures.rows
      (c.settle.ensures (subst (λ (m : RowMap). Indexes c.add_all.new.self (row_in m)) (sym c.rows.ensures.rows)
      (subst (λ (r : Rows). Indexes c.add_all.new.self r)
      (ap (λ (l : List Change). rows_after (row_in (table_rows c.args.self.table)) l) c.deref.ensures.value ∙ sym (fun_ext c.in-Done.ensures.rows))
      (c.in-Ok-Ok.ensures.added (row_in (table_rows c.args.self.table)) c.args.self.indexed))));
}

pub invariant_of-device-in-Refused : goal.invariant_of-device-in-Refused
invariant_of-device-in-Refused g c = record {
  owner = ap (λ log. log_owner log) c.in-Refused.ensures.refused.0.log ∙ c.args.self.owner;
  indexed = subst (λ (r : Rows). Indexes c.add_all.new.self r) (sym (fun_ext c.in-Refused.ensures.refused.0.rows))
      (c.add_all.ensures.kept (row_in (table_rows c.args.self.table)) c.args.self.indexed);
}

pub returns-in-Done-clause-done : goal.returns-in-Done-clause-done
returns-in-Done-clause-done g c = λ kept opens. record {
  rows_are = fun_ext c.in-Done.ensures.rows ∙ ap (λ (r : Rows). rows_after r c.args.changes.items) opens.rows_are;
  stands = λ told. c.in-Done.ensures.done told kept.batches (opens.stands told);
}

pub returns-in-Done-clause-rows : goal.returns-in-Done-clause-rows
returns-in-Done-clause-rows g c = fun_ext c.in-Done.ensures.rows

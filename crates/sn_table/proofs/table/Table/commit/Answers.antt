use Rattle.std.proofs.Common.{[], ◌∷◌, ◌++◌, List, ap, sym, subst, ◌∙◌}
use Rattle.sn_rows.specs.Table.{row_after}
use Rattle.sn_rows.specs.declared.change.Change.{Change}
use Rattle.sn_table.specs.Facts.{kinds_after}
use Rattle.sn_table.specs.Logs.{StandsFor}
use Rattle.sn_table.proofs.TableLemmas.{rows_more}
use Rattle.sn_table.proofs.table.Table.commit.Goals as goal

pub opened-requires : goal.opened-requires
opened-requires g c = λ key value is. c.args.self.kinds key value (sym (c.sweep_for.ensures.rows key ∙ c.make_room_for.ensures.rows key) ∙ is)

pub opened-requires-in-Done : goal.opened-requires-in-Done
opened-requires-in-Done g c = kinds_after c.args.self.rows c.set_all.new.self c.args.changes.items c.args.self.kinds
    (λ key. c.set_all.ensures.rows key ∙ ap (λ found. row_after found key c.args.changes.items) (c.make_room_for.ensures.rows key))

pub opened-requires-in-Refused : goal.opened-requires-in-Refused
opened-requires-in-Refused g c = λ key value is. c.args.self.kinds key value (sym (c.sweep_for-in-Refused.ensures.rows key ∙ c.make_room_for.ensures.rows key) ∙ is)

pub returns-in-Done-clause-done : goal.returns-in-Done-clause-done
returns-in-Done-clause-done g c = λ told batches o.
    rw (c.opened-in-Done.ensures.log, c.opened-in-Done.ensures.rows) (record {
      log_has = subst (λ (l : List Change). StandsFor c.in-Done.log (batches ++ l ∷ [])) c.deref-2.ensures.value (c.in-Done.ensures.done told batches o.log_has);
      rows_are = rows_more c.args.self.rows c.set_all.new.self batches c.args.changes.items o.rows_are
          (λ key. c.set_all.ensures.rows key ∙ ap (λ found. row_after found key c.args.changes.items) (c.make_room_for.ensures.rows key));
    })

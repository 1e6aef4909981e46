use Rattle.std.proofs.Common.{[], ◌∷◌, sym, ap, ◌∙◌}
use Rattle.sn_rows.specs.Table.{changed}
use Rattle.sn_rows.specs.Facts.{row_after-append}
use Rattle.sn_row_map.specs.RowMaps.{row_in}
use Rattle.sn_row_map.proofs.row_map.RowMap.add_all.Goals as goal

pub changes-preserved : goal.changes-preserved
changes-preserved c = record {
  rows = λ key.
      c.in_ok-add.ensures.rows key
      ∙ ap (λ found. changed found key c.in-Some.change) (c.changes.invariant.rows key)
      ∙ sym (row_after-append (row_in c.args.self.now key) key c.changes.yielded (c.in-Some.change ∷ []));
  tidy = λ tidy key. c.add.ensures.swept key (c.changes.invariant.tidy tidy key);
}

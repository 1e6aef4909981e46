use Rattle.std.specs.Option.{option_to_list}
use Rattle.sn_row_map.specs.RowMaps.{row_in}
use Rattle.sn_saying.proofs.ServedLemmas.{rows_more, says_more}
use Rattle.sn_saying.proofs.serving.items_served.Goals as goal

pub changes-preserved : goal.changes-preserved
changes-preserved c =
    let server = row_in c.args.server.now in
    record {
      rows = rows_more server (row_in c.changes.server) (row_in c.apply.new.server) c.changes.yielded c.in-Some.change c.changes.invariant.rows c.in_ok-apply.ensures;
      said = says_more server (row_in c.changes.server) (row_in c.args.device.now) c.args.name.now c.changes.yielded c.in-Some.change c.changes.moves
          (option_to_list c.in_ok-said.said) c.push_said.new.moves c.changes.invariant.rows c.changes.invariant.said c.in_ok-said.ensures c.in_ok-push_said.ensures;
    }

use Rattle.sn_row_map.specs.RowMaps.{row_in}
use Rattle.sn_moves.proofs.WalkLemmas.{walk_more}
use Rattle.sn_moves.proofs.drafts.answered.Goals as goal

pub changes-preserved : goal.changes-preserved
changes-preserved c =
    walk_more c.args.name.now c.args.foreign.now c.changes.copy c.in_ok-copy.copy (row_in c.args.rows.now) c.args.changes.now c.changes.place
    c.index-changes-place.result c.changes.moves c.push_change.new.moves _ c.changes-test.true c.index-changes-place.is c.in_ok-copy.ensures.moves
    c.in_ok-copy.ensures.copy c.changes.invariant

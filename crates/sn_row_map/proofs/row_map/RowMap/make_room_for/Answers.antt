use Rattle.std.proofs.Common.{ap, ◌∙◌, take, arith}
use Rattle.std.proofs.lemmas.List.Elements.{All-weaker}
use Rattle.sn_rows.specs.Table.{key_of, same_key}
use Rattle.sn_row_map.specs.RowMaps.{FitsIn}
use Rattle.sn_row_map.proofs.ListLemmas.{all_more, all_read}
use Rattle.sn_row_map.proofs.RowLemmas.{fits_still, spares_at}
use Rattle.sn_row_map.proofs.row_map.RowMap.make_room_for.Goals as goal

pub returns-in_err-make_room_of-clause-rows : goal.returns-in_err-make_room_of-clause-rows
returns-in_err-make_room_of-clause-rows c = λ key. c.in_err-make_room_of.ensures.rows key ∙ c.changes.invariant.rows key

pub changes-preserved : goal.changes-preserved
changes-preserved c = record {
  rows = λ key. c.in_ok-make_room_of.ensures.rows key ∙ c.changes.invariant.rows key;
  room = all_more (FitsIn c.make_room_of.new.self) c.args.changes.now c.changes.change-index c.change-item.result _ (omega arith) c.change-item.is
      (All-weaker (FitsIn c.changes.self) (FitsIn c.make_room_of.new.self) (fits_still c.changes.self c.make_room_of.new.self c.in_ok-make_room_of.ensures.kept) (take c.changes.change-index c.args.changes.now) c.changes.invariant.room)
      c.in_ok-make_room_of.ensures.room;
  others = λ key spared h.
      c.make_room_of.ensures.others key (ap (λ change. same_key (key_of change) key) c.change-item.is ∙ spares_at key c.args.changes.now c.changes.change-index _ (omega arith) spared)
      (c.changes.invariant.others key spared h);
}

pub returns-in_err-make_room_of-clause-others : goal.returns-in_err-make_room_of-clause-others
returns-in_err-make_room_of-clause-others c = λ key spared h.
    c.make_room_of.ensures.others key (ap (λ change. same_key (key_of change) key) c.change-item.is ∙ spares_at key c.args.changes.now c.changes.change-index _ (omega arith) spared)
    (c.changes.invariant.others key spared h)

pub returns-clause-room : goal.returns-clause-room
returns-clause-room c = all_read (FitsIn c.changes.self) c.args.changes.now c.changes.change-index (omega arith) c.changes.invariant.room

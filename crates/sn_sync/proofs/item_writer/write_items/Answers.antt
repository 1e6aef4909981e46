use Rattle.serde_json.specs.Data.{no_items}
use Rattle.sn_sync.proofs.Appending.{◌>>◌, Appends-none, Appends-one, ends_with}
use Rattle.sn_sync.proofs.DataLists.{Appends-closed, Appends-pushed, AreItemsData-all, AreItemsData-next, pushed}
use Rattle.sn_sync.proofs.item_writer.write_items.Goals as goal

pub loop-item-init : goal.loop-item-init
loop-item-init c = (no_items, tt, Appends-none c.begin_array.new.self)

pub loop-item-preserved : goal.loop-item-preserved
loop-item-preserved c =
    let w = c.loop-item.invariant in
    let one = c.in_ok-write_item.ensures in (
      pushed w.0 one.0,
      AreItemsData-next c.args.items.now c.loop-item.item-index c.item-item.result w.0 one.0 c.loop-item-test.true c.item-item.is w.1 one.1,
      Appends-pushed w.0 one.0 w.2 one.2,
    )

pub returns : goal.returns
returns c =
    let w = c.loop-item.invariant in
    ends_with c.end_array.ensures (λ end. (
      w.0,
      AreItemsData-all c.args.items.now c.loop-item.item-index w.0 c.loop-item-test.false w.1,
      Appends-one c.in_ok-begin_array.ensures >> Appends-closed w.0 w.2 end,
    ))

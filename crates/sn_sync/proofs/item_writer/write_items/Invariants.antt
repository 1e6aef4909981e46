use Rattle.std.proofs.Common.{take}
use Rattle.serde_json.specs.Data.{Items}
use Rattle.sn_sync.specs.Appended.{Appends}
use Rattle.sn_sync.specs.Written.{AreItemsData}
use Rattle.sn_sync.proofs.DataLists.{open_tokens}
use Rattle.sn_sync.proofs.item_writer.write_items.Given as goal

abbrev pub invariant-loop-item : goal.invariant-loop-item
invariant-loop-item l =
    (ds : Items) × AreItemsData (take l.item-index l.items) ds × Appends l.initial.out l.out (open_tokens ds)

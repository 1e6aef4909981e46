use Rattle.std.proofs.Common.{refl}
use Rattle.sn_row_map.specs.RowMaps.{row_in}
use Rattle.sn_rows.specs.declared.device_rows.LocalItem.{LocalItem}
use Rattle.sn_device.specs.Sending.{IsWaiting}
use Rattle.sn_device.specs.States.{HasLocal}
use Rattle.sn_local.proofs.IndexLemmas.{none_holds, settled}
use Rattle.sn_local.proofs.index.Index.settle_one.Goals as goal

pub returns : goal.returns
returns c =
    settled c.args.self.now (record { alloc = c.args.self.now.alloc; names = c.args.self.now.names; waiting = c.remove.new.self })
    (row_in c.args.rows.now) c.args.number refl c.remove.ensures.updates.0
    (none_holds ((item : LocalItem) → HasLocal (row_in c.args.rows.now) c.args.number item → ¬ (IsWaiting item)) c.waiting_item.result
    c.is_some.result c.waiting_item.ensures.none c.is_some.ensures c.if-is_some.false)

use Rattle.std.proofs.Common.{subst}
use Rattle.sn_row_map.specs.RowMaps.{row_in}
use Rattle.sn_rows.specs.declared.device_rows.LocalItem.{LocalItem}
use Rattle.sn_saying.specs.Adopted.{IsUuidOf}
use Rattle.sn_saying.proofs.RepostLemmas.{item_said}
use Rattle.sn_saying.proofs.reposting.reposted_uuid.Goals as goal

pub returns-in-Local-Local : goal.returns-in-Local-Local
returns-in-Local-Local c = λ accounts a shows at.
    item_said (row_in c.args.server.now) accounts a c.args.number shows at c.args.at.now c.args.value.now c.in-Local-Local.field-0-0 c.in-Local-Local.item
    c.uuid_of.result c.in-Local-Local.is-0 c.in-Local-Local.is-1
    (subst (λ (local : LocalItem). IsUuidOf (row_in c.args.server.now) c.args.number local c.uuid_of.result) c.get.ensures c.uuid_of.ensures)

use Rattle.std.proofs.Common.{◌≡◌, ap, sym}
use Rattle.std.proofs.lemmas.Result.{on_ok_weaker}
use Rattle.serde_json.specs.Data.{Data}
use Rattle.sn_sync.specs.Written.{IsCreatedData, IsItemData, item_data}
use Rattle.sn_sync.specs.declared.item.Body.{Body}
use Rattle.sn_sync.specs.declared.item.Item.{Item}
use Rattle.sn_sync.proofs.item_writer.write_item.Goals as goal

IsItemData-of : (i : Item) (created : Data) (b : Body) → i.body ≡ b → IsCreatedData i.created created → IsItemData i (item_data created i b)
IsItemData-of i created b is spells = record { created = created; spells = spells; is = ap (item_data created i) (sym is) }

pub returns-in-Strings : goal.returns-in-Strings
returns-in-Strings c =
    on_ok_weaker c.write_kept.result (λ w. (_, IsItemData-of c.args.item.now w.0 _ c.in-Strings.is w.1, w.2)) c.write_kept.ensures

pub returns-in-Deleted : goal.returns-in-Deleted
returns-in-Deleted c =
    on_ok_weaker c.write_deleted.result (λ w. (_, IsItemData-of c.args.item.now w.0 _ c.in-Deleted.is w.1, w.2)) c.write_deleted.ensures

-- Whether a device has sent an item, by one row of it after another.
use Rattle.std.proofs.Common.{◌≡◌, ℕ, Option, Some, refl, ap, ◌∙◌, subst}
use Rattle.sn_laws.specs.Lookups.{Bytes}
use Rattle.sn_row_map.specs.RowMaps.{row_in}
use Rattle.sn_row_map.specs.declared.row_map.RowMap.{RowMap}
use Rattle.sn_rows.specs.Kinds.{key_kind}
use Rattle.sn_rows.specs.declared.device_rows.LocalItem.{LocalItem}
use Rattle.sn_rows.specs.declared.key.Key.{Key}
use Rattle.sn_rows.specs.declared.key.Key.TheVariants as key
use Rattle.sn_rows.specs.declared.kind.RowKind.TheVariants as kind
use Rattle.sn_rows.specs.declared.server_rows.ItemRow.{ItemRow}
use Rattle.sn_rows.specs.declared.value.Value.{Value}
use Rattle.sn_rows.specs.declared.value.Value.TheVariants as value
use Rattle.sn_world.specs.Serving.{IsSentRow, stamp_in}
use Rattle.sn_saying.specs.Sent.{HasSent, IsSentAt}

-- a row of which it is so is the one that is asked for
pub sent_here : (found : Option Value) (device : RowMap) (uuid : Bytes) (row : ItemRow) (at : Key) (v : Value) → row_in device at ≡ Some v
    → IsSentAt (stamp_in found) uuid row at v → IsSentRow found (row_in device) uuid row
sent_here found device uuid row at v stands (number, local, at_is, v_is, sent) = record {
  number = number;
  local = local;
  stands = (subst (λ (k : Key). row_in device k ≡ Some (value.Local local)) at_is (stands ∙ ap Some v_is), sent.uuid_is);
  kind_is = sent.kind_is;
  base_is = sent.base_is;
  posted = sent.posted;
  posted_is = sent.posted_is;
  body_is = sent.body_is;
}

-- where it is so of no row, there is none
pub sent_nowhere : (found : Option Value) (device : RowMap) (uuid : Bytes) (row : ItemRow)
    → ((k : Key) (v : Value) → key_kind k ≡ kind.Local → row_in device k ≡ Some v → ¬ (IsSentAt (stamp_in found) uuid row k v))
    → ¬ (IsSentRow found (row_in device) uuid row)
sent_nowhere found device uuid row none sent =
    none (key.Local sent.number) (value.Local sent.local) refl sent.stands.0 (
      sent.number,
      sent.local,
      refl,
      refl,
      record {
        uuid_is = sent.stands.1;
        base_is = sent.base_is;
        kind_is = sent.kind_is;
        posted = sent.posted;
        posted_is = sent.posted_is;
        body_is = sent.body_is;
      },
    )

-- of a row of an item it is so where it is so of the item
pub local_sent : (base : Option ℕ) (uuid : Bytes) (row : ItemRow) (at : Key) (v : Value) (local : LocalItem) → v ≡ value.Local local
    → IsSentAt base uuid row at v → HasSent base uuid row local
local_sent base uuid row at v local v_is (number, other, at_is, other_is, sent) =
    let same : other ≡ local = cc in
    subst (HasSent base uuid row) same sent

-- Changes, by the columns of what they put.
use Rattle.std.specs.Prelude.{◌≡◌, ℕ, Result, Ok, Err, IfOk}
use Rattle.sn_rows.specs.Table.{Puts}
use Rattle.sn_rows.specs.declared.change.Change.{Change}
use Rattle.sn_rows.specs.declared.device_rows.LocalItem.{LocalItem}
use Rattle.sn_rows.specs.declared.device_rows.OwnerRow.{OwnerRow}
use Rattle.sn_rows.specs.declared.key.Key.TheVariants as key
use Rattle.sn_rows.specs.declared.value.Value.TheVariants as value
use Rattle.sn_device.specs.Sending.{PutsColumns}
use Rattle.sn_device.specs.States.{Columns, OwnerColumns, columns, owner_columns}
use Rattle.sn_device.specs.Steps.{PutsOwner}

pub puts_columns : {E : Type 0} (result : Result Change E) (number : ℕ) (local : LocalItem) (c : Columns) → IfOk result (λ change. Puts change (key.Local number) (value.Local local))
    → columns local ≡ c → IfOk result (λ change. PutsColumns change number c)
puts_columns (Ok change) number local c puts are = record { local = local; puts = puts; columns_are = are }
puts_columns (Err e) number local c puts are = puts

pub puts_owner : {E : Type 0} (result : Result Change E) (owner : OwnerRow) (c : OwnerColumns) → IfOk result (λ change. Puts change key.Owner (value.Owner owner))
    → owner_columns owner ≡ c → IfOk result (λ change. PutsOwner change c)
puts_owner (Ok change) owner c puts are = record { owner = owner; puts_it = puts; columns_are = are }
puts_owner (Err e) owner c puts are = puts

-- A row taken away leaves none of its item.
use Rattle.std.proofs.Common.{◌≡◌, ℕ, [], ◌∷◌, Some}
use Rattle.sn_laws.specs.Lookups.{Bytes}
use Rattle.sn_laws.specs.declared.ideal.Account.{Account}
use Rattle.sn_laws.specs.declared.ideal.Device.{Device}
use Rattle.sn_laws.specs.declared.ideal.Ideal.{Ideal}
use Rattle.sn_rows.specs.Table.{Removes, Rows, rows_after}
use Rattle.sn_rows.specs.declared.change.Change.{Change}
use Rattle.sn_rows.specs.declared.device_rows.LocalItem.{LocalItem}
use Rattle.sn_rows.specs.declared.key.Key.TheVariants as key
use Rattle.sn_rows.specs.declared.value.Value.TheVariants as value
use Rattle.sn_shows.proofs.Facts.{none_left}
use Rattle.sn_shows.specs.Devices.{ShowsDevice}
use Rattle.sn_shows.specs.Laws.{HasAccount}
use Rattle.sn_world.specs.Pulled.{HasNoBase}

-- so none stands on a version
pub no_row : (rows : Rows) (s : Ideal) (name : Bytes) (local : ℕ) (item : LocalItem) (d : Device) (a : Account) (change : Change) → ShowsDevice rows s name
    → HasAccount s name d a → rows (key.Local local) ≡ Some (value.Local item) → Removes change (key.Local local) → HasNoBase (rows_after rows (change ∷ [])) item.uuid
no_row rows s name local item d a change shows has stands gone number it e =
    absurd (none_left rows s name local item d a change shows has stands gone number it e.0 e.1)

-- What is known of a device at a point of a call: its account, its session token and its present set; and what exchanges leave it.
use Rattle.std.proofs.Common.{◌≡◌, [], ◌∷◌, length, ap, ◌∙◌}
use Rattle.sn_device.specs.Runs.{Point}
use Rattle.sn_device.specs.Sending.{NoneWaits}
use Rattle.sn_device.specs.States.{HasSets}
use Rattle.sn_laws.specs.Lookups.{Bytes, greatest}
use Rattle.sn_laws.specs.declared.ideal.Account.{Account}
use Rattle.sn_laws.specs.declared.ideal.Device.{Device}
use Rattle.sn_laws.specs.declared.ideal.Ideal.{Ideal}
use Rattle.sn_rows.specs.Table.{Rows}
use Rattle.sn_rows.specs.declared.device_rows.OwnerRow.{OwnerRow}
use Rattle.sn_sets.specs.declared.sets.Sets.{Sets}
use Rattle.sn_shows.proofs.Facts.{greatest_of_one}
use Rattle.sn_shows.specs.Laws.{HasAccount}
use Rattle.sn_string.specs.declared.params.KeySet.{KeySet}
use Rattle.sn_world.specs.Plain.{AsksNoSet}
use Rattle.sn_world.specs.Pulled.{HasAll}
use Rattle.sn_world.specs.World.{World}

-- the account has this identifier, the session token is this, and so is the present set
pub record HasKeys (rows : Rows) (identifier token : Bytes) (present : KeySet) : Type 0 where
  pub owner : OwnerRow
  pub sets : Sets
  pub holds : HasSets rows owner sets
  pub identifier_is : owner.identifier ≡ identifier
  pub token_is : owner.token ≡ token
  pub present_is : sets.present ≡ present

-- the greatest set that the device holds is its account's last
abbrev pub HoldsLast : Ideal → Bytes → Type 0
HoldsLast t name = (d : Device) (a : Account) → HasAccount t name d a → greatest 0 d.held ≡ length a.sets

-- it holds that set alone
abbrev pub HoldsAlone : Ideal → Bytes → Type 0
HoldsAlone t name = (d : Device) (a : Account) → HasAccount t name d a → d.held ≡ length a.sets ∷ []

pub last_alone : (t : Ideal) (name : Bytes) → HoldsAlone t name → HoldsLast t name
last_alone t name alone d a has = ap (greatest 0) (alone d a has) ∙ greatest_of_one (length a.sets)

-- it asks for no set, and has these keys
abbrev pub Unasked : Bytes → Bytes → KeySet → World → Ideal → Point → Type 0
Unasked identifier token present v t p = AsksNoSet p.rows × HasKeys p.rows identifier token present

-- and nothing is left between it and its server
pub record Brought (name identifier token : Bytes) (present : KeySet) (v : World) (t : Ideal) (p : Point) : Type 0 where
  pub none_asked : AsksNoSet p.rows
  pub keys : HasKeys p.rows identifier token present
  pub alone : HoldsAlone t name
  pub whole : HasAll p.rows t name
  pub none_waits : NoneWaits p.rows

-- What holds between two items of a sync whose token is its account's present one: all of the invariant that serving an item touches; and what an item makes
-- of it that is taken as a new version.
use Rattle.std.specs.Prelude.{◌≡◌, ℕ, ◌∷◌, [], length, Some, IsTrue}
use Rattle.sn_account.specs.Incoming.{Progress}
use Rattle.sn_changed.specs.Leaves.{OnlyBecomes, with_version}
use Rattle.sn_device.specs.States.{IsSound}
use Rattle.sn_laws.specs.Lookups.{Bytes, greatest}
use Rattle.sn_laws.specs.Moves.{after, allows}
use Rattle.sn_laws.specs.declared.ideal.Account.{Account}
use Rattle.sn_laws.specs.declared.ideal.Device.{Device}
use Rattle.sn_laws.specs.declared.ideal.Ideal.{Ideal}
use Rattle.sn_laws.specs.declared.ideal.Version.{Version}
use Rattle.sn_laws.specs.declared.moves.Move.{Move}
use Rattle.sn_rows.specs.Table.{Rows}
use Rattle.sn_rows.specs.declared.server_rows.ItemRow.{ItemRow}
use Rattle.sn_shows.specs.Devices.{ShowsDevice}
use Rattle.sn_shows.specs.Laws.{HasAccount}
use Rattle.sn_shows.specs.Servers.{ShowsAccounts, account_at, stamps_in}
use Rattle.sn_sync.specs.declared.item.Item.{Item}
use Rattle.sn_world.specs.Holds.{NumbersOf, Reached}
use Rattle.sn_world.specs.Serving.{SaysItem}

pub record IsAlive (p : Progress) (device : Rows) (s : Ideal) (name : Bytes) (n : ℕ) (a : Account) (d : Device) : Type 0 where
  pub reached : Reached s
  pub accounts : ShowsAccounts p.rows s.accounts
  pub last : p.last ≡ greatest 0 (stamps_in s.accounts)
  pub at : account_at n s.accounts ≡ Some a
  pub has : HasAccount s name d a
  pub rows : ShowsDevice device s name
  pub sound : IsSound device
  pub alive : greatest 0 d.held ≡ length a.sets
  pub numbers : NumbersOf s name

-- the item's row is put as a move says it: the account has one version more, which the rows show, at the greatest stamp
pub record IsTaken (p q : Progress) (device : Rows) (s : Ideal) (name : Bytes) (n : ℕ) (a : Account) (i : Item) (row : ItemRow) : Type 0 where
  pub move : Move
  pub legal : IsTrue (allows s move)
  pub version : Version
  pub only : OnlyBecomes s (after s move) n a (with_version version a)
  pub uuid_is : version.uuid ≡ i.uuid
  pub stamp_is : version.stamp ≡ q.last
  pub shows : ShowsAccounts q.rows (after s move).accounts
  pub last : q.last ≡ greatest 0 (stamps_in (after s move).accounts)
  pub keeps : (others : Rows) (other : Bytes) → ShowsDevice others s other → ShowsDevice others (after s move) other
  pub says : SaysItem p.rows device name i.uuid row (move ∷ [])

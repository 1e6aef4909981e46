-- A change of password, and an item that is sealed again, leave what each device's rows show: the device's account keeps its sets and its versions.
use Rattle.std.proofs.Common.{◌≡◌, ℕ, List, ◌++◌, length, Option, Some, None}
use Rattle.std.specs.Prelude.{find}
use Rattle.sn_laws.specs.declared.ideal.Account.{Account}
use Rattle.sn_laws.specs.declared.ideal.Ideal.{Ideal}
use Rattle.sn_laws.specs.declared.ideal.Version.{Version}
use Rattle.sn_laws.specs.declared.moves.Move.TheVariants.{Change, Rewrap}
use Rattle.sn_laws.specs.Lookups.{Bytes, account_with, device_named, is_account, last_of}
use Rattle.sn_laws.specs.Moves.{after, again, changed_where, rewrapped}
use Rattle.sn_rows.specs.Table.{Rows}
use Rattle.sn_string.specs.declared.params.KeySet.{KeySet}
use Rattle.sn_shows.specs.Devices.{ShowsDevice}
use Rattle.sn_shows.proofs.AccountsExtend.{Found, device_kept, found_changed, found_same, more_versions, one_more_set}
use Rattle.sn_shows.proofs.ServersLists.{more_sets}

pub change_keeps : (rows : Rows) (s : Ideal) (name identifier : Bytes) (number : ℕ) (set : KeySet) → ShowsDevice rows s name
    → ShowsDevice rows (after s (Change identifier number set)) name
change_keeps rows s name identifier number set h =
    device_kept rows s (changed_where (is_account identifier) (more_sets set) s.accounts) name (device_named s name)
    (λ other a at. found_changed (is_account identifier) (more_sets set) (λ x. one_more_set set x) other s.accounts a at) h

found_rewrapped : (accounts : List Account) (of : Option Account) (uuid : Bytes) (stamp : ℕ) (identifier : Bytes) (a : Account)
    → find (is_account identifier) accounts ≡ Some a → Found (find (is_account identifier) (rewrapped accounts of uuid stamp)) a
found_rewrapped accounts None uuid stamp identifier a h = found_same (find (is_account identifier) accounts) a h
found_rewrapped accounts (Some b) uuid stamp identifier a h =
    let versions : List Version = again stamp (length b.sets) (last_of uuid b.versions) in
    found_changed (is_account b.identifier) (λ (x : Account). record x { versions = x.versions ++ versions }) (λ x. more_versions versions x) identifier
    accounts a h

pub rewrap_keeps : (rows : Rows) (s : Ideal) (name uuid : Bytes) (stamp under : ℕ) → ShowsDevice rows s name
    → ShowsDevice rows (after s (Rewrap uuid stamp under)) name
rewrap_keeps rows s name uuid stamp under h =
    device_kept rows s (rewrapped s.accounts (account_with s.accounts uuid) uuid stamp) name (device_named s name)
    (λ identifier a at. found_rewrapped s.accounts (account_with s.accounts uuid) uuid stamp identifier a at) h

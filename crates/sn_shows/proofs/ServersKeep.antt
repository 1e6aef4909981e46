-- A registration and an accept leave what each device's rows show: the device's account stays, and keeps its versions.
use Rattle.std.proofs.Common.{◌≡◌, ℕ, List, [], ◌∷◌, ◌++◌, length, Option, Some, None}
use Rattle.std.specs.Prelude.{IsTrue, find}
use Rattle.sn_laws.specs.declared.ideal.Account.{Account}
use Rattle.sn_laws.specs.declared.ideal.Draft.{Draft}
use Rattle.sn_laws.specs.declared.ideal.Ideal.{Ideal}
use Rattle.sn_laws.specs.declared.moves.Move.TheVariants.{Register, Accept}
use Rattle.sn_laws.specs.Lookups.{Bytes, account_of, device_named, draft_at, is_account}
use Rattle.sn_laws.specs.Moves.{accepted, after, allows, version_of}
use Rattle.sn_laws.proofs.Facts.{find_before}
use Rattle.sn_rows.specs.Table.{Rows}
use Rattle.sn_string.specs.declared.params.KeySet.{KeySet}
use Rattle.sn_shows.specs.Devices.{ShowsDevice}
use Rattle.sn_shows.proofs.AccountsExtend.{Found, device_kept, found_changed, found_same, more_versions}
use Rattle.sn_shows.proofs.ServersLists.{more}
use Rattle.sn_shows.proofs.ServersRegister.{new_account}

pub register_keeps : (rows : Rows) (s : Ideal) (name identifier : Bytes) (set : KeySet) → IsTrue (allows s (Register identifier set))
    → ShowsDevice rows s name → ShowsDevice rows (after s (Register identifier set)) name
register_keeps rows s name identifier set allowed h =
    device_kept rows s (s.accounts ++ new_account identifier set ∷ []) name (device_named s name)
    (λ other a at.
    found_same (find (is_account other) (s.accounts ++ new_account identifier set ∷ [])) a
    (find_before (is_account other) s.accounts (new_account identifier set ∷ []) a at)) h

found_accepted : (accounts : List Account) (of : Option Account) (d : Option Draft) (stamp : ℕ) (identifier : Bytes) (a : Account)
    → find (is_account identifier) accounts ≡ Some a → Found (find (is_account identifier) (accepted accounts of d stamp)) a
found_accepted accounts None d stamp identifier a h = found_same (find (is_account identifier) accounts) a h
found_accepted accounts (Some b) None stamp identifier a h = found_same (find (is_account identifier) accounts) a h
found_accepted accounts (Some b) (Some d) stamp identifier a h =
    found_changed (is_account b.identifier) (more (version_of stamp (length b.sets) d))
    (λ x. more_versions (version_of stamp (length b.sets) d ∷ []) x) identifier accounts a h

pub accept_keeps : (rows : Rows) (s : Ideal) (name device uuid : Bytes) (stamp : ℕ) (under : Option ℕ) → ShowsDevice rows s name
    → ShowsDevice rows (after s (Accept device uuid stamp under)) name
accept_keeps rows s name device uuid stamp under h =
    device_kept rows s (accepted s.accounts (account_of s device) (draft_at s device uuid) stamp) name (device_named s name)
    (λ identifier a at. found_accepted s.accounts (account_of s device) (draft_at s device uuid) stamp identifier a at) h

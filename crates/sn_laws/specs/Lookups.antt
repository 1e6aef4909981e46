-- Who is who in an ideal state.
use Rattle.std.specs.Prelude.{reverse, ℕ, List, [], ◌∷◌, Bool, ◌&&◌, Option, Some, None, find, nat_lt, if◌then◌else◌}
use Rattle.std.specs.List.{list_any}
use Rattle.std.specs.Str.{bytes_eq}
use Rattle.sn_laws.specs.declared.ideal.Version.{Version}
use Rattle.sn_laws.specs.declared.ideal.Account.{Account}
use Rattle.sn_laws.specs.declared.ideal.Draft.{Draft}
use Rattle.sn_laws.specs.declared.ideal.Device.{Device}
use Rattle.sn_laws.specs.declared.ideal.Ideal.{Ideal}

-- a text as its bytes, a uuid as its 16 bytes
abbrev pub Bytes : Type 0
Bytes = List ℕ

-- the state before any move
abbrev pub empty : Ideal
empty = record { accounts = []; drafts = []; devices = [] }

-- an account goes by its identifier, a device by its name, a draft by its device and its item's uuid

abbrev pub is_account : Bytes → Account → Bool
is_account identifier a = bytes_eq a.identifier identifier

abbrev pub is_device : Bytes → Device → Bool
is_device name d = bytes_eq d.name name

abbrev pub is_draft : Bytes → Bytes → Draft → Bool
is_draft device uuid d = bytes_eq d.device device && bytes_eq d.uuid uuid

abbrev pub account_named : Ideal → Bytes → Option Account
account_named s identifier = find (is_account identifier) s.accounts

abbrev pub device_named : Ideal → Bytes → Option Device
device_named s name = find (is_device name) s.devices

abbrev pub draft_at : Ideal → Bytes → Bytes → Option Draft
draft_at s device uuid = find (is_draft device uuid) s.drafts

-- the account of a device, if it has one
abbrev pub account_for : List Account → Option Device → Option Account
account_for accounts None = None
account_for accounts (Some d) = find (is_account d.account) accounts

abbrev pub account_of : Ideal → Bytes → Option Account
account_of s device = account_for s.accounts (device_named s device)

-- an item's last version
abbrev pub is_of : Bytes → Version → Bool
is_of uuid v = bytes_eq v.uuid uuid

abbrev pub last_of : Bytes → List Version → Option Version
last_of uuid versions = find (is_of uuid) (reverse versions)

-- an account has versions of the item
abbrev pub has_item : Bytes → Account → Bool
has_item uuid a = list_any (is_of uuid) a.versions

-- the account that has versions of the item
abbrev pub account_with : List Account → Bytes → Option Account
account_with accounts uuid = find (has_item uuid) accounts

-- the greatest of these numbers, or the first one given
abbrev pub greatest : ℕ → List ℕ → ℕ
greatest most [] = most
greatest most (n ∷ ns) = greatest (if nat_lt most n then n else most) ns

-- the numbers of the sets that a device holds
abbrev pub held_by : Option Device → List ℕ
held_by None = []
held_by (Some d) = d.held

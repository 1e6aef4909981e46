-- The moves as a relation between states, in plain statements: where each is allowed, and what it does.
use Rattle.std.specs.Prelude.{◌≡◌, ◌≢◌, ◌⊎◌, ◌<◌, ◌≤◌, ℕ, ◌+◌, List, length, Option, Some, None, IsTrue}
use Rattle.sn_items.specs.Objects.{is_object}
use Rattle.sn_laws.specs.Each.{Each, One}
use Rattle.sn_laws.specs.Lookups.{Bytes, account_named, account_of, account_with, device_named, draft_at, held_by, last_of}
use Rattle.sn_laws.specs.Moves.{after, most_sets}
use Rattle.sn_string.specs.Bounds.{longest_content, last_stamp}
use Rattle.sn_laws.specs.declared.ideal.Content.{Content}
use Rattle.sn_laws.specs.declared.ideal.Content.TheVariants.{Plain, Deleted}
use Rattle.sn_laws.specs.declared.ideal.Body.{Body}
use Rattle.sn_laws.specs.declared.ideal.Body.TheVariants.{Under, Gone}
use Rattle.sn_laws.specs.declared.ideal.Version.{Version}
use Rattle.sn_laws.specs.declared.ideal.Account.{Account}
use Rattle.sn_laws.specs.declared.ideal.Posted.{Posted}
use Rattle.sn_laws.specs.declared.ideal.Draft.{Draft}
use Rattle.sn_laws.specs.declared.ideal.Device.{Device}
use Rattle.sn_laws.specs.declared.ideal.Ideal.{Ideal}
use Rattle.sn_laws.specs.declared.moves.Move.{Move}
use Rattle.sn_laws.specs.declared.moves.Move.TheVariants.{Register, Join, Edit, Drop, Post, Unpost, Accept, Rewrap, Settle, SettlePosted, Fork, Rename, GiveWay, Change, Retire}
use Rattle.sn_string.specs.declared.params.KeySet.{KeySet}

-- contents and versions

abbrev pub IsPlain : Content → Type 0
IsPlain (Plain text) = Unit {0}
IsPlain Deleted = ⊥

abbrev pub IsLive : Body → Type 0
IsLive (Under text set) = Unit {0}
IsLive Gone = ⊥

-- both are deleted, or type and text are the same
abbrev pub IsContentOf : Bytes → Content → Bytes → Body → Type 0
IsContentOf kind (Plain text) other_kind (Under other set) = (kind ≡ other_kind) × (text ≡ other)
IsContentOf kind (Plain text) other_kind Gone = ⊥
IsContentOf kind Deleted other_kind (Under other set) = ⊥
IsContentOf kind Deleted other_kind Gone = Unit {0}

-- Register: no account has the identifier
abbrev pub MayRegister : Ideal → Bytes → Type 0
MayRegister s identifier = Each (λ a. a.identifier ≢ identifier) s.accounts

-- Join: the set is the account's last and above all that the device holds; the device has this account or none, and holds at most one set
pub record HeldBefore (d : Device) (identifier : Bytes) (number : ℕ) : Type 0 where
  pub same : d.account ≡ identifier
  pub one : length d.held ≤ 1
  pub below : Each (λ m. m < number) d.held

pub record MayJoin (s : Ideal) (device identifier : Bytes) (number : ℕ) : Type 0 where
  pub account : Account
  pub named : account_named s identifier ≡ Some account
  pub last : number ≡ length account.sets
  pub before : (d : Device) → device_named s device ≡ Some d → HeldBefore d account.identifier number

-- an undeleted version of this item, type and stamp
pub record IsLiveAt (uuid kind : Bytes) (stamp : ℕ) (v : Version) : Type 0 where
  pub item : v.uuid ≡ uuid
  pub kind_is : v.kind ≡ kind
  pub stamp_is : v.stamp ≡ stamp
  pub live : IsLive v.body

-- the account has one
abbrev pub HasLive : Account → Bytes → Bytes → ℕ → Type 0
HasLive a uuid kind stamp = One (IsLiveAt uuid kind stamp) a.versions

-- Edit to a text: it is an object text of at most 700,000 bytes. There is no draft, and the new one stands on nothing or on an
-- undeleted version of its item and type; or there is one that isn't deleted, of this type and base
pub record MayWrite (s : Ideal) (device uuid kind : Bytes) (base : Option ℕ) (text : Bytes) : Type 0 where
  pub account : Account
  pub has : account_of s device ≡ Some account
  pub short : length text ≤ longest_content
  pub object : IsTrue (is_object text)
  pub new : draft_at s device uuid ≡ None → (stamp : ℕ) → base ≡ Some stamp → HasLive account uuid kind stamp
  pub there : (d : Draft) → draft_at s device uuid ≡ Some d → (d.kind ≡ kind) × (d.base ≡ base) × IsPlain d.latest

-- Edit to a deletion: there is no draft, and the new one stands on an undeleted version of its item and type; or there is one of this
-- type and base, and it has a base or was sent
pub record MayDelete (s : Ideal) (device uuid kind : Bytes) (base : Option ℕ) : Type 0 where
  pub account : Account
  pub has : account_of s device ≡ Some account
  pub new : draft_at s device uuid ≡ None → (stamp : ℕ) × (base ≡ Some stamp) × HasLive account uuid kind stamp
  pub there : (d : Draft) → draft_at s device uuid ≡ Some d → (d.kind ≡ kind) × (d.base ≡ base) × ((d.base ≢ None) ⊎ (d.posted ≢ None))

abbrev pub MayEdit : Ideal → Bytes → Bytes → Bytes → Option ℕ → Content → Type 0
MayEdit s device uuid kind base (Plain text) = MayWrite s device uuid kind base text
MayEdit s device uuid kind base Deleted = MayDelete s device uuid kind base

-- the draft of an item on a device that has an account
pub record HasDraft (s : Ideal) (device uuid : Bytes) (account : Account) (draft : Draft) : Type 0 where
  pub has : account_of s device ≡ Some account
  pub at : draft_at s device uuid ≡ Some draft

-- Post: nothing was sent, or what was sent has no number
pub record MayPost (s : Ideal) (device uuid : Bytes) : Type 0 where
  pub account : Account
  pub draft : Draft
  pub is : HasDraft s device uuid account draft
  pub unsent : (p : Posted) → draft.posted ≡ Some p → p.set ≡ None

-- the number that is said is the set's; a deletion has none
abbrev pub NamesSet : ℕ → Content → Option ℕ → Type 0
NamesSet number (Plain text) under = under ≡ Some number
NamesSet number Deleted under = under ≡ None

-- the base is the last version's stamp; or there is none, and no account has the item
abbrev pub IsOnLast : Ideal → Account → Bytes → Option ℕ → Type 0
IsOnLast s a uuid None = Each (λ b. Each (λ v. v.uuid ≢ uuid) b.versions) s.accounts
IsOnLast s a uuid (Some stamp) = (v : Version) × (last_of uuid a.versions ≡ Some v) × (v.stamp ≡ stamp)

-- above all stamps of all accounts, and none after the last
pub record IsNewStamp (s : Ideal) (stamp : ℕ) : Type 0 where
  pub above : Each (λ a. Each (λ v. v.stamp < stamp) a.versions) s.accounts
  pub bounded : stamp ≤ last_stamp

-- Accept: the draft was sent under the account's last set, stands on the last version, and the stamp is new
pub record MayAccept (s : Ideal) (device uuid : Bytes) (stamp : ℕ) (under : Option ℕ) : Type 0 where
  pub account : Account
  pub draft : Draft
  pub is : HasDraft s device uuid account draft
  pub posted : Posted
  pub sent : draft.posted ≡ Some posted
  pub last_set : posted.set ≡ Some (length account.sets)
  pub said : NamesSet (length account.sets) posted.content under
  pub on_last : IsOnLast s account uuid draft.base
  pub new : IsNewStamp s stamp

-- Settle: the draft's content is the last version's
pub record MaySettle (s : Ideal) (device uuid : Bytes) : Type 0 where
  pub account : Account
  pub draft : Draft
  pub is : HasDraft s device uuid account draft
  pub version : Version
  pub last : last_of uuid account.versions ≡ Some version
  pub content : IsContentOf draft.kind draft.latest version.kind version.body

-- what was sent of the draft is the version's content, with or without a number
abbrev pub IsSentAs : Draft → Version → Type 0
IsSentAs d v = (p : Posted) × (d.posted ≡ Some p) × IsContentOf d.kind p.content v.kind v.body

-- the version carries a set that isn't held
abbrev pub IsUnseen : List ℕ → Body → Type 0
IsUnseen held (Under text set) = Each (λ m. m ≢ set) held
IsUnseen held Gone = ⊥

-- the draft, and the last version of its item in the device's account
pub record MeetsLast (s : Ideal) (device uuid : Bytes) (account : Account) (draft : Draft) (version : Version) : Type 0 where
  pub is : HasDraft s device uuid account draft
  pub last : last_of uuid account.versions ≡ Some version

-- SettlePosted: what was sent is the last version's content, and the stamp is that version's
pub record MaySettlePosted (s : Ideal) (device uuid : Bytes) (stamp : ℕ) : Type 0 where
  pub account : Account
  pub draft : Draft
  pub version : Version
  pub meets : MeetsLast s device uuid account draft version
  pub sent : IsSentAs draft version
  pub stamp_is : version.stamp ≡ stamp

-- the draft doesn't stand on the version, which the device can't read, or which has neither its content nor what was sent of it
pub record IsAnother (held : List ℕ) (d : Draft) (v : Version) : Type 0 where
  pub passed : d.base ≢ Some v.stamp
  pub other : IsUnseen held v.body ⊎ ((¬ (IsContentOf d.kind d.latest v.kind v.body)) × (¬ (IsSentAs d v)))

-- Fork: a content meets another version; the device has no draft under the new uuid
pub record MayFork (s : Ideal) (device uuid other : Bytes) : Type 0 where
  pub account : Account
  pub draft : Draft
  pub version : Version
  pub meets : MeetsLast s device uuid account draft version
  pub plain : IsPlain draft.latest
  pub another : IsAnother (held_by (device_named s device)) draft version
  pub free : draft_at s device other ≡ None

-- GiveWay: a deletion meets a live version that it doesn't stand on, which the device can't read or which isn't what was sent of it
pub record MayGiveWay (s : Ideal) (device uuid : Bytes) : Type 0 where
  pub account : Account
  pub draft : Draft
  pub version : Version
  pub meets : MeetsLast s device uuid account draft version
  pub deleted : draft.latest ≡ Deleted
  pub live : IsLive version.body
  pub passed : draft.base ≢ Some version.stamp
  pub other : IsUnseen (held_by (device_named s device)) version.body ⊎ (¬ (IsSentAs draft version))

-- another account has versions of the item
abbrev pub IsElsewhere : Ideal → Account → Bytes → Type 0
IsElsewhere s a uuid = One (λ b. (b.identifier ≢ a.identifier) × One (λ v. v.uuid ≡ uuid) b.versions) s.accounts

-- Rename: a new item, whose uuid another account has; the device has no draft under the new uuid
pub record MayRename (s : Ideal) (device uuid other : Bytes) : Type 0 where
  pub account : Account
  pub draft : Draft
  pub is : HasDraft s device uuid account draft
  pub new : draft.base ≡ None
  pub elsewhere : IsElsewhere s account uuid
  pub free : draft_at s device other ≡ None

-- Drop: a new item of which nothing was sent, or which is deleted and whose uuid another account has
pub record MayDrop (s : Ideal) (device uuid : Bytes) : Type 0 where
  pub account : Account
  pub draft : Draft
  pub is : HasDraft s device uuid account draft
  pub new : draft.base ≡ None
  pub unsent : (draft.posted ≡ None) ⊎ ((draft.latest ≡ Deleted) × IsElsewhere s account uuid)

-- the base is the last version's stamp; or there is neither
abbrev pub IsBased : Option ℕ → Option Version → Type 0
IsBased None last = last ≡ None
IsBased (Some stamp) last = (v : Version) × (last ≡ Some v) × (v.stamp ≡ stamp)

-- Unpost: the draft was sent under another set than the account's last, and stands on the last version, or there is neither
pub record MayUnpost (s : Ideal) (device uuid : Bytes) : Type 0 where
  pub account : Account
  pub draft : Draft
  pub is : HasDraft s device uuid account draft
  pub posted : Posted
  pub sent : draft.posted ≡ Some posted
  pub number : ℕ
  pub number_is : posted.set ≡ Some number
  pub before : number ≢ length account.sets
  pub based : IsBased draft.base (last_of uuid account.versions)

-- the body is live and carries the set of this number
abbrev pub IsUnder : ℕ → Body → Type 0
IsUnder n (Under text set) = set ≡ n
IsUnder n Gone = ⊥

-- Rewrap: the item's last version is live and carries another set than its account's last; the stamp is new
pub record MayRewrap (s : Ideal) (uuid : Bytes) (stamp under : ℕ) : Type 0 where
  pub account : Account
  pub has : account_with s.accounts uuid ≡ Some account
  pub version : Version
  pub last : last_of uuid account.versions ≡ Some version
  pub live : IsLive version.body
  pub behind : ¬ (IsUnder (length account.sets) version.body)
  pub last_set : under ≡ length account.sets
  pub new : IsNewStamp s stamp

-- Change: no set of the account has the nonce, it has fewer than 1,000,000 sets, each live last version carries the last of them, and the
-- number is that of one more
pub record MayChange (s : Ideal) (identifier : Bytes) (number : ℕ) (set : KeySet) : Type 0 where
  pub account : Account
  pub named : account_named s identifier ≡ Some account
  pub fresh : Each (λ (k : KeySet). k.params.pw_nonce ≢ set.params.pw_nonce) account.sets
  pub few : length account.sets < most_sets
  pub same : (uuid : Bytes) (v : Version) → last_of uuid account.versions ≡ Some v → IsLive v.body → IsUnder (length account.sets) v.body
  pub next : number ≡ length account.sets + 1

-- Retire: the device holds the set and a greater one, and no last version carries it
pub record MayRetire (s : Ideal) (device : Bytes) (number : ℕ) : Type 0 where
  pub account : Account
  pub has : account_of s device ≡ Some account
  pub holds : One (λ m. m ≡ number) (held_by (device_named s device))
  pub greater : One (λ m. number < m) (held_by (device_named s device))
  pub unused : (uuid : Bytes) (v : Version) → last_of uuid account.versions ≡ Some v → ¬ (IsUnder number v.body)

abbrev pub IsAllowed : Ideal → Move → Type 0
IsAllowed s (Register identifier set) = MayRegister s identifier
IsAllowed s (Join device identifier number) = MayJoin s device identifier number
IsAllowed s (Edit device uuid kind base latest) = MayEdit s device uuid kind base latest
IsAllowed s (Drop device uuid) = MayDrop s device uuid
IsAllowed s (Post device uuid) = MayPost s device uuid
IsAllowed s (Unpost device uuid) = MayUnpost s device uuid
IsAllowed s (Accept device uuid stamp under) = MayAccept s device uuid stamp under
IsAllowed s (Rewrap uuid stamp under) = MayRewrap s uuid stamp under
IsAllowed s (Settle device uuid) = MaySettle s device uuid
IsAllowed s (SettlePosted device uuid stamp) = MaySettlePosted s device uuid stamp
IsAllowed s (Fork device uuid other) = MayFork s device uuid other
IsAllowed s (Rename device uuid other) = MayRename s device uuid other
IsAllowed s (GiveWay device uuid) = MayGiveWay s device uuid
IsAllowed s (Change identifier number set) = MayChange s identifier number set
IsAllowed s (Retire device number) = MayRetire s device number

-- the move leads from the one state to the other
pub record Moves (s : Ideal) (m : Move) (next : Ideal) : Type 0 where
  pub allowed : IsAllowed s m
  pub effect : next ≡ after s m

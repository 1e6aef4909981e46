-- What a device sends in a sync: the drafts, and the items that are to be sealed again on the server, in the order of their local numbers.
use Rattle.std.specs.Prelude.{◌≡◌, ◌≢◌, ◌⊎◌, ◌↔◌, ◌+◌, ◌≤◌, ℕ, true, List, [], ◌∷◌, ◌++◌, length, map, sum_by, All, Option, Some, None, IsSome}
use Rattle.std.specs.List.{AllZip, Contains}
use Rattle.std.specs.List.Sorted.{IsStrictlyIncreasing}
use Rattle.sn_conflict.specs.Checks.{most_retrieved}
use Rattle.sn_rows.specs.Table.{Puts, Rows}
use Rattle.sn_rows.specs.declared.body.RowBody.{RowBody}
use Rattle.sn_rows.specs.declared.body.RowBody.TheVariants as row
use Rattle.sn_rows.specs.declared.change.Change.{Change}
use Rattle.sn_rows.specs.declared.device_rows.LocalItem.{LocalItem}
use Rattle.sn_rows.specs.declared.device_rows.OwnerRow.{OwnerRow}
use Rattle.sn_rows.specs.declared.key.Key.TheVariants as key
use Rattle.sn_rows.specs.declared.value.Value.TheVariants as value
use Rattle.sn_string.specs.Bounds.{most_bytes}
use Rattle.sn_sync.specs.Stamps.{IsStampText}
use Rattle.sn_sync.specs.declared.item.Body.{Body}
use Rattle.sn_sync.specs.declared.item.Body.TheVariants as body
use Rattle.sn_sync.specs.declared.item.Item.{Item}
use Rattle.sn_sync.specs.declared.request.Request.{Request}
use Rattle.sn_sync.specs.declared.request.Request.TheVariants as request
use Rattle.sn_device.specs.States.{Bytes, Columns, HasLocal, columns, token_of}

-- ---- what is to be sent

-- the item has a draft, or a version that is to be sent again under other keys
abbrev pub IsWaiting : LocalItem → Type 0
IsWaiting local = IsSome local.latest ⊎ (local.stale ≡ true)

-- nothing is left to send
abbrev pub NoneWaits : Rows → Type 0
NoneWaits rows = (number : ℕ) (local : LocalItem) → HasLocal rows number local → ¬ (IsWaiting local)

abbrev pub SomeWaits : Rows → Type 0
SomeWaits rows = (number : ℕ) × (local : LocalItem) × HasLocal rows number local × IsWaiting local

abbrev pub first_some : Option RowBody → Option RowBody → Option RowBody
first_some (Some version) other = Some version
first_some None other = other

-- what is sent of it: what was sent before and isn't answered, else the draft, else the version that it stands on
abbrev pub sent_of : LocalItem → Option RowBody
sent_of local = first_some local.posted (first_some local.latest local.body)

-- an item with its local number
abbrev pub Numbered : Type 0
Numbered = ℕ × LocalItem

-- all that wait, by rising local number
pub record AreWaiting (rows : Rows) (waiting : List Numbered) : Type 0 where
  pub rising : IsStrictlyIncreasing (map (λ w. w.0) waiting)
  pub whole : (number : ℕ) (local : LocalItem) → Contains waiting (number, local) ↔ (HasLocal rows number local × IsWaiting local)

-- ---- a request's items

abbrev pub most_sent : ℕ
most_sent = 150

-- the bytes of the strings that are sent
abbrev pub weight_of : Option RowBody → ℕ
weight_of None = 0
weight_of (Some row.Deleted) = 0
weight_of (Some (row.Sealed strings)) = length strings.content + length strings.enc

abbrev pub FitsSending : List Numbered → Type 0
FitsSending chosen = (length chosen ≤ most_sent) × (sum_by (λ w. weight_of (sent_of w.1)) chosen ≤ most_bytes)

-- the longest front of them that fits, and at least one where there is one; the others are left for later
pub record AreChosen (rows : Rows) (chosen later : List Numbered) : Type 0 where
  pub all : AreWaiting rows (chosen ++ later)
  pub fits : FitsSending chosen ⊎ (length chosen ≡ 1)
  pub longest : (next : Numbered) (others : List Numbered) → later ≡ next ∷ others → (chosen ≢ []) × ¬ (FitsSending (chosen ++ next ∷ []))

abbrev pub message_body : RowBody → Body
message_body row.Deleted = body.Deleted
message_body (row.Sealed strings) = body.Strings strings.content strings.enc

-- the text of the stamp of the version that is replaced; none of a new item
abbrev pub SaysBase : Option ℕ → Option Bytes → Type 0
SaysBase None updated_at = updated_at ≡ None
SaysBase (Some stamp) updated_at = (text : Bytes) × IsStampText text stamp × (updated_at ≡ Some text)

-- the item as it is sent
pub record IsSentAs (local : LocalItem) (i : Item) : Type 0 where
  pub uuid_is : i.uuid ≡ local.uuid
  pub kind_is : i.kind ≡ local.kind
  pub created_is : i.created ≡ None
  pub replaces : SaysBase local.base i.updated_at
  pub version : RowBody
  pub sent : sent_of local ≡ Some version
  pub body_is : i.body ≡ message_body version

abbrev pub AreSentAs : List Numbered → List Item → Type 0
AreSentAs chosen items = AllZip (λ w i. IsSentAs w.1 i) chosen items

-- each of these is sent of some row
abbrev pub AreOfRows : Rows → List Item → Type 0
AreOfRows rows items = All (λ i. (number : ℕ) × (local : LocalItem) × HasLocal rows number local × IsSentAs local i) items

-- the request for a sync: so many items may be retrieved, from where the tokens of the last answer that was applied say
pub record IsSyncOf (owner : OwnerRow) (chosen : List Numbered) (r : Request) : Type 0 where
  pub items : List Item
  pub items_are : AreSentAs chosen items
  pub request_is : r ≡ request.Sync owner.token items most_retrieved (token_of owner.sync_token) (token_of owner.cursor_token)

-- ---- posting: before a draft is sent, it is kept as it is sent

-- a draft that wasn't sent yet
abbrev pub IsUnsent : LocalItem → Type 0
IsUnsent local = IsSome local.latest × (local.posted ≡ None)

abbrev pub as_posted : Columns → Columns
as_posted c = record c { posted = c.latest }

-- the change puts an item's row of these columns
pub record PutsColumns (change : Change) (number : ℕ) (c : Columns) : Type 0 where
  pub local : LocalItem
  pub puts : Puts change (key.Local number) (value.Local local)
  pub columns_are : columns local ≡ c

-- the item of this number is posted
pub record Posts (rows : Rows) (number : ℕ) (change : Change) : Type 0 where
  pub local : LocalItem
  pub stands : HasLocal rows number local
  pub unsent : IsUnsent local
  pub puts : PutsColumns change number (as_posted (columns local))

-- each of these numbers, in order
abbrev pub PostsAll : Rows → List ℕ → List Change → Type 0
PostsAll rows numbers changes = AllZip (Posts rows) numbers changes

-- the numbers of those that weren't sent yet
abbrev pub AreUnsent : List Numbered → List ℕ → Type 0
AreUnsent [] numbers = numbers ≡ []
AreUnsent (w ∷ chosen) numbers =
    (IsUnsent w.1 × ((later : List ℕ) × (numbers ≡ w.0 ∷ later) × AreUnsent chosen later)) ⊎ (¬ (IsUnsent w.1) × AreUnsent chosen numbers)

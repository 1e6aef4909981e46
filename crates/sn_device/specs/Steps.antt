-- One commit of a device: what it makes of the rows, and what it draws for that.
use Rattle.std.specs.Prelude.{◌≡◌, ◌≢◌, ◌⊎◌, ◌≤◌, ℕ, suc, List, [], ◌∷◌, ◌++◌, length, IsTrue, Option, Some, None}
use Rattle.rand_chacha.specs.ChaCha.{ChaCha}
use Rattle.sn_conflict.specs.Checks.{Passes}
use Rattle.sn_items.specs.Objects.{is_object}
use Rattle.sn_rekey.specs.Carrying.{IsFinished}
use Rattle.sn_string.specs.Bounds.{longest_content}
use Rattle.sn_rows.specs.Table.{Puts, Removes, Rows}
use Rattle.sn_rows.specs.declared.body.RowBody.{RowBody}
use Rattle.sn_rows.specs.declared.body.RowBody.TheVariants as row
use Rattle.sn_rows.specs.declared.body.RowStrings.{RowStrings}
use Rattle.sn_rows.specs.declared.change.Change.{Change}
use Rattle.sn_rows.specs.declared.device_rows.LocalItem.{LocalItem}
use Rattle.sn_rows.specs.declared.device_rows.OwnerRow.{OwnerRow}
use Rattle.sn_rows.specs.declared.device_rows.SetRow.{SetRow}
use Rattle.sn_rows.specs.declared.key.Key.{Key}
use Rattle.sn_rows.specs.declared.key.Key.TheVariants as key
use Rattle.sn_rows.specs.declared.key.Slot.{Slot}
use Rattle.sn_rows.specs.declared.key.Slot.TheVariants.{Asked, Older, Present}
use Rattle.sn_rows.specs.declared.value.Value.TheVariants as value
use Rattle.sn_sets.specs.Seals.{Seals}
use Rattle.sn_sets.specs.declared.sets.Sets.{Sets}
use Rattle.sn_string.specs.declared.params.KeySet.{KeySet}
use Rattle.sn_sync.specs.declared.answer.Answer.{Answer}
use Rattle.sn_sync.specs.declared.answer.Answer.TheVariants as answer
use Rattle.sn_sync.specs.declared.answer.Conflict.{Conflict}
use Rattle.sn_sync.specs.declared.item.Item.{Item}
use Rattle.sn_sync.specs.declared.request.Request.{Request}
use Rattle.sn_sync.specs.declared.request.Request.TheVariants as request
use Rattle.sn_device.specs.Changing.{MayAsk, RekeysAll}
use Rattle.sn_device.specs.Draws.{DrawsFresh}
use Rattle.sn_device.specs.Listing.{AreItems}
use Rattle.sn_device.specs.Sending.{AreOfRows, Numbered, PostsAll, PutsColumns}
use Rattle.sn_device.specs.States.{Bytes, Columns, HasItem, HasLocal, HasOwner, HasSet, HasSets, IsFresh, IsSetOf, OwnerColumns, columns, owner_columns, text_of_token}
use Rattle.sn_device.specs.Taking.{Progress, TakesAll, last_number, new_columns, told_by}

-- what is committed
pub data What : Type 0 where
  -- the first rows: an account and its set, from a registration or a sign-in
  begins : KeySet → Bytes → Bytes → What
  -- the session token of a sign-in with the present set
  renews : Bytes → What
  -- a new item of this uuid, type and content
  puts : Bytes → Bytes → Bytes → What
  -- an item's new content
  edits : Bytes → Bytes → What
  -- an item's deletion
  deletes : Bytes → What
  -- the drafts of these local numbers are kept as they are sent
  posts : List ℕ → What
  -- the answer to a sync
  applies : Request → Answer → What
  -- a set is asked for: a change of password begins
  asks : KeySet → What
  -- a set is adopted, with its session token: a change of password is answered, or a sign-in finds another's
  adopts : KeySet → Bytes → What
  -- the set that was asked for is dropped: a change of password was refused
  forgets : What

-- ---- the device's own row

-- the change puts it with these columns
pub record PutsOwner (change : Change) (c : OwnerColumns) : Type 0 where
  pub owner : OwnerRow
  pub puts_it : Puts change key.Owner (value.Owner owner)
  pub columns_are : owner_columns owner ≡ c

abbrev pub with_next : ℕ → OwnerColumns → OwnerColumns
with_next next c = record c { next = next }

abbrev pub with_token : Bytes → OwnerColumns → OwnerColumns
with_token token c = record c { token = token }

abbrev pub with_tokens : ℕ → Bytes → Option Bytes → OwnerColumns → OwnerColumns
with_tokens next sync_token cursor_token c = record c { sync_token = sync_token; cursor_token = text_of_token cursor_token; next = next }

-- ---- the first rows

-- the first local number
abbrev pub first_number : ℕ
first_number = 1

-- the account of the set's identifier, without tokens of a sync
abbrev pub first_owner : KeySet → Bytes → Bytes → OwnerColumns
first_owner set account token = record {
  identifier = set.params.identifier;
  account = account;
  token = token;
  sync_token = [];
  cursor_token = [];
  next = first_number;
}

pub record BeginsDevice (set : KeySet) (account token : Bytes) (changes : List Change) : Type 0 where
  pub owner : Change
  pub owner_is : PutsOwner owner (first_owner set account token)
  pub keys : SetRow
  pub keys_are : IsSetOf set.params.identifier keys set
  pub present : Change
  pub present_is : Puts present (key.Set Present) (value.Set keys)
  pub changes_are : changes ≡ owner ∷ present ∷ []

pub record Renews (rows : Rows) (token : Bytes) (changes : List Change) : Type 0 where
  pub owner : OwnerRow
  pub owned : HasOwner rows owner
  pub change : Change
  pub renewed : PutsOwner change (with_token token (owner_columns owner))
  pub changes_are : changes ≡ change ∷ []

-- ---- the user's changes

-- a content that is put or edited
abbrev pub IsContent : Bytes → Type 0
IsContent text = (length text ≤ longest_content) × IsTrue (is_object text)

-- a new item under the next local number, with a draft and nothing that it stands on
pub record PutsNew (rows : Rows) (words : ChaCha) (uuid kind text : Bytes) (changes : List Change) (left : ChaCha) : Type 0 where
  pub content : IsContent text
  pub owner : OwnerRow
  pub sets : Sets
  pub holds : HasSets rows owner sets
  pub room : owner.next ≢ last_number
  pub rest : ChaCha
  pub fresh : DrawsFresh rows words uuid rest
  pub strings : RowStrings
  pub seals : Seals rest sets.present uuid text strings left
  pub item : Change
  pub item_is : PutsColumns item owner.next (new_columns uuid kind strings)
  pub counted : Change
  pub counted_is : PutsOwner counted (with_next (suc owner.next) (owner_columns owner))
  pub changes_are : changes ≡ item ∷ counted ∷ []

abbrev pub drafted : Option RowBody → Columns → Columns
drafted latest c = record c { latest = latest }

-- an item's draft is this content; what was sent of it stays
pub record Edits (rows : Rows) (words : ChaCha) (uuid text : Bytes) (changes : List Change) (left : ChaCha) : Type 0 where
  pub content : IsContent text
  pub owner : OwnerRow
  pub sets : Sets
  pub holds : HasSets rows owner sets
  pub number : ℕ
  pub local : LocalItem
  pub stands : HasItem rows uuid number local
  pub undeleted : local.latest ≢ Some row.Deleted
  pub strings : RowStrings
  pub seals : Seals words sets.present uuid text strings left
  pub change : Change
  pub change_is : PutsColumns change number (drafted (Some (row.Sealed strings)) (columns local))
  pub changes_are : changes ≡ change ∷ []

-- no server knows of the item
abbrev pub IsUnknown : LocalItem → Type 0
IsUnknown local = (local.base ≡ None) × (local.posted ≡ None)

-- an item's draft is a deletion; an item of which no server knows goes
pub record Deletes (rows : Rows) (uuid : Bytes) (changes : List Change) : Type 0 where
  pub number : ℕ
  pub local : LocalItem
  pub stands : HasItem rows uuid number local
  pub change : Change
  pub change_is : (IsUnknown local × Removes change (key.Local number))
      ⊎ (¬ (IsUnknown local) × PutsColumns change number (drafted (Some row.Deleted) (columns local)))
  pub changes_are : changes ≡ change ∷ []

-- ---- an answer to a sync

abbrev pub start : Rows → OwnerRow → ChaCha → Progress
start rows owner words = record { rows = rows; changes = []; next = owner.next; words = words }

abbrev pub AllFinished : Rows → KeySet → Type 0
AllFinished rows set = (number : ℕ) (local : LocalItem) → HasLocal rows number local → IsFinished set local

-- the row of this key is no item that needs the set
abbrev pub IsFinishedAt : Rows → KeySet → Key → Type 0
IsFinishedAt rows set at = (number : ℕ) (local : LocalItem) → at ≡ key.Local number → HasLocal rows number local → IsFinished set local

-- the older set may go: the last page was given, and no item needs it
abbrev pub MayRetire : Rows → Option Bytes → KeySet → Type 0
MayRetire rows cursor set = (cursor ≡ None) × AllFinished rows set

-- the older set is retired, where there is one that may go
abbrev pub Retires : Rows → Option Bytes → Option KeySet → List Change → Type 0
Retires rows cursor None changes = changes ≡ []
Retires rows cursor (Some set) changes =
    (MayRetire rows cursor set × ((change : Change) × Removes change (key.Set Older) × (changes ≡ change ∷ [])))
    ⊎ (¬ (MayRetire rows cursor set) × (changes ≡ []))

-- the answer to these items, which were sent of these rows, passes the checks: all that it tells is taken, then its tokens and the next local number, then the retired set
pub record Applies (rows : Rows) (words : ChaCha) (sent : List Item) (conflicts : List Conflict) (cursor : Option Bytes) (retrieved saved : List Item)
    (token : Bytes) (changes : List Change) (left : ChaCha) : Type 0 where
  pub sent_of_rows : AreOfRows rows sent
  pub passes : Passes sent saved conflicts retrieved cursor
  pub owner : OwnerRow
  pub sets : Sets
  pub holds : HasSets rows owner sets
  pub end : Progress
  pub taken : TakesAll sets saved (start rows owner words) (told_by saved conflicts retrieved) end
  pub left_is : left ≡ end.words
  pub counted : Change
  pub counted_is : PutsOwner counted (with_tokens end.next token cursor (owner_columns owner))
  pub retired : List Change
  pub retires : Retires end.rows cursor sets.older retired
  pub changes_are : changes ≡ end.changes ++ counted ∷ retired

abbrev pub AppliesAnswer : Rows → ChaCha → List Item → Answer → List Change → ChaCha → Type 0
AppliesAnswer rows words sent (answer.Sync conflicts cursor retrieved saved token) changes left =
    Applies rows words sent conflicts cursor retrieved saved token changes left
AppliesAnswer rows words sent (answer.Account token identifier uuid) changes left = ⊥
AppliesAnswer rows words sent (answer.Params params) changes left = ⊥
AppliesAnswer rows words sent (answer.Refused status tag more) changes left = ⊥

abbrev pub AppliesTo : Rows → ChaCha → Request → Answer → List Change → ChaCha → Type 0
AppliesTo rows words (request.Sync token items limit sync_token cursor_token) given changes left = AppliesAnswer rows words items given changes left
AppliesTo rows words (request.Register params pw) given changes left = ⊥
AppliesTo rows words (request.Params identifier) given changes left = ⊥
AppliesTo rows words (request.SignIn identifier pw) given changes left = ⊥
AppliesTo rows words (request.ChangePw token current pw cost nonce) given changes left = ⊥

-- ---- changes of password

-- the change puts the set into the slot
pub record PutsSet (change : Change) (slot : Slot) (identifier : Bytes) (set : KeySet) : Type 0 where
  pub keys : SetRow
  pub keys_are : IsSetOf identifier keys set
  pub puts : Puts change (key.Set slot) (value.Set keys)

-- the set is kept as asked for
pub record Asks (rows : Rows) (set : KeySet) (changes : List Change) : Type 0 where
  pub owner : OwnerRow
  pub sets : Sets
  pub holds : HasSets rows owner sets
  pub may : MayAsk rows sets
  pub change : Change
  pub put : PutsSet change Asked owner.identifier set
  pub changes_are : changes ≡ change ∷ []

-- the set that is asked for goes, where there is one
abbrev pub DropsAsked : Option KeySet → List Change → Type 0
DropsAsked None changes = changes ≡ []
DropsAsked (Some set) changes = (change : Change) × Removes change (key.Set Asked) × (changes ≡ change ∷ [])

-- the set is the present one, the present one the older, a former older one and the one that was asked for go; each version that opens is sealed again
-- under the set, and one that a server has is then stale
pub record Adopts (rows : Rows) (words : ChaCha) (set : KeySet) (token : Bytes) (changes : List Change) (left : ChaCha) : Type 0 where
  pub owner : OwnerRow
  pub sets : Sets
  pub holds : HasSets rows owner sets
  pub items : List Numbered
  pub items_are : AreItems rows items
  pub rekeyed : List Change
  pub rekeys : RekeysAll sets set words items rekeyed left
  pub counted : Change
  pub counted_is : PutsOwner counted (with_token token (owner_columns owner))
  pub present : Change
  pub present_is : PutsSet present Present owner.identifier set
  pub older : Change
  pub older_is : PutsSet older Older owner.identifier sets.present
  pub dropped : List Change
  pub drops : DropsAsked sets.asked dropped
  pub changes_are : changes ≡ rekeyed ++ counted ∷ present ∷ older ∷ dropped

-- the set that was asked for goes
pub record Forgets (rows : Rows) (changes : List Change) : Type 0 where
  pub asked : SetRow
  pub stands : HasSet rows Asked asked
  pub change : Change
  pub removes : Removes change (key.Set Asked)
  pub changes_are : changes ≡ change ∷ []

-- ---- each of them

-- the rows before, the words before, what is done, what is changed, and the words after; the rows after are those after the changes
abbrev pub Step : Rows → ChaCha → What → List Change → ChaCha → Type 0
Step rows words (begins set account token) changes left = IsFresh rows × BeginsDevice set account token changes × (left ≡ words)
Step rows words (renews token) changes left = Renews rows token changes × (left ≡ words)
Step rows words (puts uuid kind text) changes left = PutsNew rows words uuid kind text changes left
Step rows words (edits uuid text) changes left = Edits rows words uuid text changes left
Step rows words (deletes uuid) changes left = Deletes rows uuid changes × (left ≡ words)
Step rows words (posts numbers) changes left = PostsAll rows numbers changes × (left ≡ words)
Step rows words (applies request given) changes left = AppliesTo rows words request given changes left
Step rows words (asks set) changes left = Asks rows set changes × (left ≡ words)
Step rows words (adopts set token) changes left = Adopts rows words set token changes left
Step rows words forgets changes left = Forgets rows changes × (left ≡ words)

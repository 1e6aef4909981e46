-- For private clauses: what is made once an edit is known to be allowed, and why it isn't.
use Rattle.std.specs.Prelude.{◌≡◌, ◌⊎◌, ◌+◌, ℕ, List, [], ◌∷◌, Some}
use Rattle.rand_chacha.specs.ChaCha.{ChaCha}
use Rattle.sn_rows.specs.Table.{Rows}
use Rattle.sn_rows.specs.declared.body.RowBody.TheVariants as row
use Rattle.sn_rows.specs.declared.body.RowStrings.{RowStrings}
use Rattle.sn_rows.specs.declared.change.Change.{Change}
use Rattle.sn_rows.specs.declared.device_rows.LocalItem.{LocalItem}
use Rattle.sn_rows.specs.declared.device_rows.OwnerRow.{OwnerRow}
use Rattle.sn_sets.specs.declared.sets.Sets.{Sets}
use Rattle.sn_device.specs.Draws.{DrawsNoFresh}
use Rattle.sn_device.specs.Listing.{IsClosed, Shows}
use Rattle.sn_device.specs.Runs.{WithContent}
use Rattle.sn_device.specs.Sending.{PutsColumns}
use Rattle.sn_device.specs.States.{Bytes, columns, owner_columns}
use Rattle.sn_device.specs.Steps.{IsContent, PutsOwner, drafted, with_next}
use Rattle.sn_device.specs.Taking.{new_columns}
use Rattle.sn_device.specs.declared.error.ClientError.{ClientError}
use Rattle.sn_device.specs.declared.error.ClientError.TheVariants as refusal
use Rattle.sn_drafts.specs.Refusing.{MayRefuse, none_more}

-- no fresh uuid is drawn
abbrev pub DrawsNone : Rows → ChaCha → ClientError → Type 0
DrawsNone rows words why = (drawn : Bytes) × DrawsNoFresh rows words drawn × (why ≡ refusal.NoFreshUuid drawn)

-- a new item of these strings, and the account's row with the number behind its own
pub record PutsBoth (owner : OwnerRow) (uuid kind : Bytes) (strings : RowStrings) (changes : List Change) : Type 0 where
  pub item : Change
  pub item_is : PutsColumns item owner.next (new_columns uuid kind strings)
  pub counted : Change
  pub counted_is : PutsOwner counted (with_next (owner.next + 1) (owner_columns owner))
  pub changes_are : changes ≡ item ∷ counted ∷ []

-- an item's draft of these strings
pub record PutsDraft (number : ℕ) (local : LocalItem) (strings : RowStrings) (changes : List Change) : Type 0 where
  pub change : Change
  pub change_is : PutsColumns change number (drafted (Some (row.Sealed strings)) (columns local))
  pub changes_are : changes ≡ change ∷ []

-- the item is shown, and the content may be put
pub record MayEdit (sets : Sets) (local : LocalItem) (text : Bytes) : Type 0 where
  pub shown : Bytes
  pub shows : Shows sets local shown
  pub content : IsContent text

-- the item isn't shown; or it is, and the content isn't taken
abbrev pub RefusesEdit : Sets → LocalItem → Bytes → ClientError → Type 0
RefusesEdit sets local text why = ((why ≡ refusal.Memory) ⊎ ((nonce : Bytes) × IsClosed sets local nonce × (why ≡ refusal.Closed nonce)))
    ⊎ ((shown : Bytes) × Shows sets local shown × MayRefuse (WithContent text none_more) why)

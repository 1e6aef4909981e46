-- What an applied answer says of the older set, as the rows and the changes have it.
use Rattle.std.specs.Prelude.{◌≡◌, ◌-◌, ℕ, List, [], ◌∷◌, length, Bool, false, Option, Some, None, slice_get}
use Rattle.sn_laws.specs.Lookups.{Bytes}
use Rattle.sn_laws.specs.declared.ideal.Account.{Account}
use Rattle.sn_laws.specs.declared.ideal.Device.{Device}
use Rattle.sn_laws.specs.declared.ideal.Ideal.{Ideal}
use Rattle.sn_laws.specs.declared.moves.Move.{Move}
use Rattle.sn_laws.specs.declared.moves.Move.TheVariants.{Retire}
use Rattle.sn_rows.specs.Table.{Rows, same_key}
use Rattle.sn_rows.specs.declared.change.Change.{Change}
use Rattle.sn_rows.specs.declared.change.Change.TheVariants.{Put, Remove}
use Rattle.sn_rows.specs.declared.key.Key.TheVariants as key
use Rattle.sn_rows.specs.declared.key.Slot.TheVariants.{Older}
use Rattle.sn_shows.specs.Devices.{ShowsDevice}
use Rattle.sn_shows.specs.Laws.{HasAccount}
use Rattle.sn_shows.specs.Servers.{ShowsServer}
use Rattle.sn_sync.specs.declared.answer.Conflict.{Conflict}
use Rattle.sn_sync.specs.declared.item.Item.{Item}
use Rattle.sn_world.specs.Applying.{SaysApplied}
use Rattle.sn_world.specs.Holds.{Reached}
use Rattle.sn_saying.specs.Adopted.{older_of}

-- the change takes the row of the older set away
abbrev pub removes_older : Change → Bool
removes_older (Put row) = false
removes_older (Remove at) = same_key at (key.Set Older)

-- a batch gives the older set up where its last change does that
abbrev pub ends_with : Option Change → Bool
ends_with None = false
ends_with (Some change) = removes_older change

abbrev pub gives_up : List Change → Bool
gives_up changes = ends_with (slice_get changes (length changes - 1))

-- the number is that of the older set, in every state that legal moves lead to and that the rows of both ends show; none, where no older set is held
abbrev pub IsOlderHeld : Rows → Rows → Option ℕ → Type 0
IsOlderHeld server rows older = (s : Ideal) (name : Bytes) (d : Device) (a : Account) → Reached s → ShowsServer server s.accounts → ShowsDevice rows s name
    → HasAccount s name d a → older ≡ older_of d.held

-- the set of this number ends
abbrev pub retiring : Bytes → Option ℕ → List Move
retiring name None = []
retiring name (Some older) = Retire name older ∷ []

-- the moves are what an answer that is applied with these changes says at its end, in every such state
abbrev pub IsRetirement : Rows → Rows → Bytes → List Change → List Move → Type 0
IsRetirement server rows name changes later = (s : Ideal) (d : Device) (a : Account) → Reached s → ShowsServer server s.accounts → ShowsDevice rows s name
    → HasAccount s name d a → (conflicts : List Conflict) (cursor : Option Bytes) (retrieved saved : List Item) (token : Bytes) (moves : List Move)
    → (says : SaysApplied rows d.held name conflicts cursor retrieved saved token changes moves) → says.later ≡ later

-- What a batch of a device is, by its changes.
use Rattle.std.specs.Prelude.{Bool, false, List, if◌then◌else◌}
use Rattle.std.specs.List.{list_any}
use Rattle.sn_device.specs.Steps.{What, adopts, applies, asks, begins, deletes, edits, forgets, posts, puts, renews}
use Rattle.sn_rows.specs.Table.{same_key}
use Rattle.sn_rows.specs.declared.change.Change.{Change}
use Rattle.sn_rows.specs.declared.change.Change.TheVariants.{Put, Remove}
use Rattle.sn_rows.specs.declared.key.Key.TheVariants as key
use Rattle.sn_rows.specs.declared.key.Slot.{Slot}
use Rattle.sn_rows.specs.declared.key.Slot.TheVariants.{Asked, Present}
use Rattle.sn_order.specs.declared.kind.Kind.{Kind}
use Rattle.sn_order.specs.declared.kind.Kind.TheVariants as kind

-- the change puts a set into the slot
abbrev pub puts_set : Slot → Change → Bool
puts_set slot (Put row) = same_key row.key (key.Set slot)
puts_set slot (Remove at) = false

-- it takes the set of the slot away
abbrev pub drops_set : Slot → Change → Bool
drops_set slot (Put row) = false
drops_set slot (Remove at) = same_key at (key.Set slot)

-- it puts the device's own row
abbrev pub puts_owner : Change → Bool
puts_owner (Put row) = same_key row.key key.Owner
puts_owner (Remove at) = false

-- the first of these that is so
abbrev pub kind_of : List Change → Kind
kind_of changes =
    if list_any (puts_set Asked) changes then kind.Asks
    else (if list_any (puts_set Present) changes then kind.Joins
    else (if list_any (drops_set Asked) changes then kind.Forgets
    else (if list_any puts_owner changes then kind.Counts else kind.Drafts)))

-- what a device does, so
abbrev pub kind_by : What → Kind
kind_by (begins set uuid token) = kind.Joins
kind_by (renews token) = kind.Counts
kind_by (puts uuid type text) = kind.Counts
kind_by (edits uuid text) = kind.Drafts
kind_by (deletes uuid) = kind.Drafts
kind_by (posts numbers) = kind.Drafts
kind_by (applies request given) = kind.Counts
kind_by (asks set) = kind.Asks
kind_by (adopts set token) = kind.Joins
kind_by forgets = kind.Forgets

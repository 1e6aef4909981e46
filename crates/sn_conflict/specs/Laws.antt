-- What holds of all answers and meetings, by the definitions alone.
use Rattle.std.specs.Prelude.{◌≡◌, Bool}
use Rattle.sn_conflict.specs.Meetings.{MeetsAs}
use Rattle.sn_conflict.specs.declared.meeting.Meeting.{Meeting}
use Rattle.sn_rows.specs.declared.device_rows.LocalItem.{LocalItem}
use Rattle.sn_sets.specs.declared.sets.Sets.{Sets}
use Rattle.sn_sync.specs.declared.item.Item.{Item}

-- a row meets a version in one way at most
abbrev pub OneMeeting : Type 0
OneMeeting = (sets : Sets) (local : LocalItem) (i : Item) (saved : Bool) (a b : Meeting)
    → MeetsAs sets local i saved a → MeetsAs sets local i saved b → a ≡ b

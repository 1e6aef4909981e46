-- The uuids of new items that another account has, by an answer.
use Rattle.std.specs.Prelude.{List, [], ◌∷◌}
use Rattle.std.specs.List.{flat_map}
use Rattle.sn_laws.specs.Lookups.{Bytes}
use Rattle.sn_sync.specs.declared.answer.Answer.{Answer}
use Rattle.sn_sync.specs.declared.answer.Answer.TheVariants as answer
use Rattle.sn_sync.specs.declared.answer.Conflict.{Conflict}
use Rattle.sn_sync.specs.declared.answer.Conflict.TheVariants as conflict

-- by a conflict
abbrev pub foreign_of : Conflict → List Bytes
foreign_of (conflict.Sync server) = []
foreign_of (conflict.Uuid unsaved) = unsaved.uuid ∷ []
foreign_of (conflict.Content unsaved) = []

-- by all of an answer to a sync; another answer has no conflicts
abbrev pub foreign_in : Answer → List Bytes
foreign_in (answer.Sync conflicts cursor retrieved saved token) = flat_map foreign_of conflicts
foreign_in (answer.Account token identifier uuid) = []
foreign_in (answer.Params params) = []
foreign_in (answer.Refused status tag more) = []

-- What became of a commit.
use Rattle.std.specs.Prelude.{◌≡◌, ◌<◌, List, length}
use Rattle.sn_journal.specs.Image.{most_payload}
use Rattle.sn_rows.specs.Spelling.{spelled}
use Rattle.sn_rows.specs.declared.change.Change.{Change}
use Rattle.sn_table.specs.declared.committed.Committed.{Committed}
use Rattle.sn_table.specs.declared.committed.Committed.TheVariants.{Done, Refused, Broken}
use Rattle.sn_table.specs.declared.committed.CommitError.{CommitError}
use Rattle.sn_table.specs.declared.committed.CommitError.TheVariants.{TooLarge, Memory}

module _ {S D : Type 0} where
  -- the disk that a commit hands on
  abbrev pub disk_after : (S → D) → Committed S D → D
  disk_after disk_of (Done store) = disk_of store
  disk_after disk_of (Refused store error) = disk_of store
  disk_after disk_of (Broken disk) = disk

  abbrev pub IfDone : Committed S D → (S → Type 0) → Type 0
  IfDone (Done store) P = P store
  IfDone (Refused store error) P = Unit {0}
  IfDone (Broken disk) P = Unit {0}

  abbrev pub IfRefused : Committed S D → (S → CommitError → Type 0) → Type 0
  IfRefused (Done store) P = Unit {0}
  IfRefused (Refused store error) P = P store error
  IfRefused (Broken disk) P = Unit {0}

  abbrev pub IfBroken : Committed S D → (D → Type 0) → Type 0
  IfBroken (Done store) P = Unit {0}
  IfBroken (Refused store error) P = Unit {0}
  IfBroken (Broken disk) P = P disk

  abbrev pub IsRefused : Committed S D → Type 0
  IsRefused (Done store) = ⊥
  IsRefused (Refused store error) = Unit {0}
  IsRefused (Broken disk) = ⊥

-- why changes were refused
abbrev pub IsCause : List Change → CommitError → Type 0
IsCause changes (TooLarge size) = (most_payload < length (spelled changes)) × (size ≡ length (spelled changes))
IsCause changes Memory = Unit {0}

-- What is left of a message and of a session.
use Rattle.std.specs.Prelude.{⊤, ℕ}
use Rattle.sn_server.specs.declared.serving.One.{One}
use Rattle.sn_server.specs.declared.serving.One.TheVariants.{Served, Checked, Over, Lost}
use Rattle.sn_server.specs.declared.serving.Session.{Session}
use Rattle.sn_server.specs.declared.serving.Session.TheVariants.{Over as IsOver, Broken as IsBroken}

module _ {S D : Type 0} where
  abbrev pub IfGoes : One S D → (S → Type 0) → Type 0
  IfGoes (Served server closing) P = P server
  IfGoes (Checked server place) P = P server
  IfGoes (Over server ended) P = P server
  IfGoes (Lost disk) P = ⊤

  abbrev pub IfLost : One S D → (D → Type 0) → Type 0
  IfLost (Served server closing) P = ⊤
  IfLost (Checked server place) P = ⊤
  IfLost (Over server ended) P = ⊤
  IfLost (Lost disk) P = P disk

  abbrev pub one_disk : (S → D) → One S D → D
  one_disk disk_of (Served server closing) = disk_of server
  one_disk disk_of (Checked server place) = disk_of server
  one_disk disk_of (Over server ended) = disk_of server
  one_disk disk_of (Lost disk) = disk

  abbrev pub IfOver : Session S D → (S → Type 0) → Type 0
  IfOver (IsOver server ended count) P = P server
  IfOver (IsBroken disk) P = ⊤

  abbrev pub IfBroken : Session S D → (D → Type 0) → Type 0
  IfBroken (IsOver server ended count) P = ⊤
  IfBroken (IsBroken disk) P = P disk

  abbrev pub session_disk : (S → D) → Session S D → D
  session_disk disk_of (IsOver server ended count) = disk_of server
  session_disk disk_of (IsBroken disk) = disk

  -- how many answers were written whole; where the disk failed none are counted
  abbrev pub count_of : Session S D → ℕ
  count_of (IsOver server ended count) = count
  count_of (IsBroken disk) = 0

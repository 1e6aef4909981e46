-- What a crash leaves of a store once serving has ended.
use Rattle.std.specs.Prelude.{◌≡◌, ◌⊎◌, ℕ, List}
use Rattle.sn_account.specs.Rule.{Rule}
use Rattle.sn_disk.specs.declared.disk.Disk.{Ghosts}
use Rattle.sn_http.specs.declared.message.Message.{Message}
use Rattle.sn_journal.specs.declared.owner.Owner.TheVariants.{Server as ServerOwner}
use Rattle.sn_rows.specs.declared.change.Change.{Change}
use Rattle.sn_server.specs.Loads.{HasSome, IsEmpty, IsFirst, StandsOrBegins}
use Rattle.sn_server.specs.Routing.{AsksFor}
use Rattle.sn_server.specs.Steps.{Step, AreSteps, after_all}
use Rattle.sn_server.specs.Stores.{Kept, after}
use Rattle.sn_sync.specs.declared.answer.Answer.{Answer}
use Rattle.sn_sync.specs.declared.request.Request.{Request}
use Rattle.sn_table.specs.Batches.{IsAllOrNothing, IsStore}
use Rattle.sn_serve.specs.declared.ends.Served.{Served}
use Rattle.sn_serve.specs.declared.ends.Served.TheVariants.{Reached, DiskFault, PortFault, WriteFault, Foreign, Damaged, Rows, Memory}

-- what was there, or where it has no row what the whole first commit makes of it
abbrev pub IsOpened : Kept → List ℕ → Kept → Type 0
IsOpened kept secret next = (HasSome kept.rows × (next ≡ kept))
    ⊎ (IsEmpty kept.rows × (changes : List Change) × IsFirst secret changes × (next ≡ after kept changes))

-- what messages made of it, each by the rule on the rows that those before it left
pub record Becomes (kept next : Kept) : Type 0 where
  pub steps : List Step
  pub are : AreSteps kept steps
  pub is : next ≡ after_all kept steps

module _ {D : Type 0} (g : Ghosts D) where
  -- each crash leaves these batches
  abbrev pub EachStands : D → List (List Change) → Type 0
  EachStands disk batches = (c : List ℕ) → g.may_leave disk c → IsStore ServerOwner c batches

  -- each crash leaves the batches of a store that was served, with those of all messages
  pub record StandsServed (kept : Kept) (secret : List ℕ) (disk : D) : Type 0 where
    pub opened : Kept
    pub last : Kept
    pub opens : IsOpened kept secret opened
    pub becomes : Becomes opened last
    pub each : EachStands disk last.batches

  -- the disk failed in the commit of one message more, and each crash leaves all of what that changes or nothing
  pub record StandsBroken (kept : Kept) (secret : List ℕ) (disk : D) : Type 0 where
    pub opened : Kept
    pub last : Kept
    pub opens : IsOpened kept secret opened
    pub becomes : Becomes opened last
    pub message : Message
    pub request : Request
    pub now : ℕ
    pub made : List Change
    pub given : Answer
    pub asks : AsksFor message request
    pub rule : Rule last.rows request now made given
    pub each : (c : List ℕ) → g.may_leave disk c → IsAllOrNothing ServerOwner last.batches made c

  -- What a crash leaves of a disk whose every outcome stood for what was kept, by how serving ended. A store that isn't
  -- loaded is as it was, but that the disk may have failed in the first commit.
  abbrev pub DiskStands : Kept → List ℕ → D → Served → Type 0
  DiskStands kept secret disk Reached = StandsServed kept secret disk
  DiskStands kept secret disk DiskFault = ((c : List ℕ) → g.may_leave disk c → StandsOrBegins kept secret c) ⊎ StandsBroken kept secret disk
  DiskStands kept secret disk PortFault = StandsServed kept secret disk
  DiskStands kept secret disk WriteFault = StandsServed kept secret disk
  DiskStands kept secret disk (Foreign place) = EachStands disk kept.batches
  DiskStands kept secret disk (Damaged place) = EachStands disk kept.batches
  DiskStands kept secret disk (Rows kind) = EachStands disk kept.batches
  DiskStands kept secret disk Memory = EachStands disk kept.batches ⊎ StandsServed kept secret disk

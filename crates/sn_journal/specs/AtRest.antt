-- A journal at rest, and what its calls hand on.
use Rattle.std.specs.Prelude.{◌≡◌, ℕ, List, length, Result, Ok, Err}
use Rattle.sn_disk.specs.Disk.{Only}
use Rattle.sn_disk.specs.declared.disk.Disk.{Ghosts}
use Rattle.std.proofs.Common.{inl, sym, subst}
use Rattle.sn_journal.specs.Image.{IsChain, IsImage, front}
use Rattle.sn_journal.specs.Reading.{AreIn}
use Rattle.sn_journal.specs.declared.owner.Owner.{Owner}
use Rattle.sn_journal.specs.declared.journal.Journal.{Journal}
use Rattle.sn_journal.specs.declared.journal.AppendError.{AppendError}
use Rattle.sn_journal.specs.declared.journal.AppendError.TheVariants.{TooLarge, Memory, DiskFault}
use Rattle.sn_journal.specs.declared.error.JournalError.{JournalError}

module _ {D : Type 0} {g : Ghosts D} where
  abbrev pub disk_of : Journal D g → D
  disk_of journal = journal.disk

  abbrev pub owner_of : Journal D g → Owner
  owner_of journal = journal.owner

  -- its disk has these batches, also after a crash
  pub record HasDurably (journal : Journal D g) (payloads : List (List ℕ)) : Type 0 where
    pub chain : IsChain journal.owner (g.seen journal.disk) payloads
    pub place : journal.gate ≡ length (front journal.owner payloads)
    pub count : journal.count ≡ length payloads
    pub durable : Only (g.seen journal.disk) (g.may_leave journal.disk)

  -- at rest, and these bytes read as its payloads
  pub record IsRead (journal : Journal D g) (bytes : List ℕ) (payloads : List (List ℕ)) : Type 0 where
    pub durably : HasDurably journal payloads
    pub read : AreIn bytes payloads

  -- at rest with the batches that this file stands for
  pub record IsLoaded (owner : Owner) (file : List ℕ) (journal : Journal D g) (bytes : List ℕ) : Type 0 where
    pub payloads : List (List ℕ)
    pub read : IsRead journal bytes payloads
    pub image : IsImage owner file payloads

  -- a crash leaves its batches
  pub durable_each : (journal : Journal D g) (payloads : List (List ℕ)) → HasDurably journal payloads → (c : List ℕ) → g.may_leave (disk_of journal) c → IsImage (owner_of journal) c payloads
  durable_each journal payloads s c left = inl (subst (λ (f : List ℕ). IsChain journal.owner f payloads) (sym (s.durable c left)) s.chain)

  -- the disk that an append hands on
  abbrev pub disk_after : Result (Journal D g) (AppendError D g) → D
  disk_after (Ok journal) = journal.disk
  disk_after (Err (TooLarge journal size)) = journal.disk
  disk_after (Err (Memory journal)) = journal.disk
  disk_after (Err (DiskFault disk)) = disk

  -- the disk that loading hands on
  abbrev pub loaded_disk : {X : Type 0} → Result (Journal D g × X) (D × JournalError) → D
  loaded_disk (Ok found) = found.0.disk
  loaded_disk (Err refusal) = refusal.0

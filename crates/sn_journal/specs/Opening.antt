-- What opening finds, within loading.
use Rattle.std.specs.Prelude.{◌≡◌, ℕ, List, length}
use Rattle.sn_disk.specs.Disk.{Only}
use Rattle.sn_journal.specs.Image.{front, IsChain, IsImage}
use Rattle.sn_journal.specs.Reading.{AreIn}
use Rattle.sn_journal.specs.declared.owner.Owner.{Owner}
use Rattle.sn_journal.specs.declared.loading.Opened.{Opened}

-- the disk has the batches that it had, also after a crash, and the gate, the count and the bytes are theirs
pub record IsOpened {D : Type 0} (seen : D → List ℕ) (may_leave : D → List ℕ → Type 0) (owner : Owner) (old new : D) (opened : Opened) : Type 0 where
  pub payloads : List (List ℕ)
  pub chain : IsChain owner (seen new) payloads
  pub gate_is : opened.gate ≡ length (front owner payloads)
  pub count_is : opened.count ≡ length payloads
  pub read : AreIn opened.batches payloads
  pub durable : Only (seen new) (may_leave new)
  pub image : IsImage owner (seen old) payloads

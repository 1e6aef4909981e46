-- What a run did, once the line of its status is told.
use Rattle.std.proofs.Common.{◌≡◌, inl, inr, ℕ, List, Option, sym, subst, ◌∙◌}
use Rattle.sn_calls.specs.declared.ends.CallEnd.{CallEnd}
use Rattle.sn_cli.specs.Runs.{IsSilent, Meets, Serves}
use Rattle.sn_device.specs.Runs.{Call}
use Rattle.sn_disk.specs.Shelf.{Slot}
use Rattle.sn_disk.specs.declared.disk.Disk.{Ghosts}
use Rattle.sn_net.specs.Connections.{Event}
use Rattle.sn_disk.specs.declared.mem_shelf.MemShelf.{MemShelf}
use Rattle.sn_serve.specs.Serving.{Handed, ServeEnds}
use Rattle.sn_status.specs.Lines.{IsTold, TellsValues}
use Rattle.sn_status.specs.declared.status.Status.{Status}
use Rattle.sn_status.specs.declared.status.Status.TheVariants.{Done, Usage, Refused, DiskFault, LinkFault, ReadFault, WriteFault, Memory, Foreign, Server, BadAnswer}
use Rattle.sn_cli.proofs.MeetsLemmas.{serving_to_memory, told}

module _ {S D P O C R : Type 0} (g : Ghosts D) (shelf_told : Type 0) (slot : S → List ℕ → Slot D) (shelf_faults : S → ℕ) (goes : P → P → List Event → Type 0) (bound : P → ℕ)
    (held : O → Option (List ℕ)) (given : C → Option (List ℕ)) (drawn : R → Option (List (List ℕ))) (old new : Handed S P O C R) where
  -- the status that is told stands for what was done
  pub told_so : (words : List (List ℕ)) (ends : List ℕ → Call → Option (List ℕ) → CallEnd → Type 0) (untouched left link_left shelf_left : Type 0)
      (status after : Status) (b c : MemShelf) (i j o p : Option (List ℕ)) (s t : Option (List (List ℕ))) → IsTold status after
      → Meets words (Serves g shelf_told slot shelf_faults goes bound held given drawn old new) ends untouched left link_left shelf_left status b c i j o p s t
      → Meets words (Serves g shelf_told slot shelf_faults goes bound held given drawn old new) ends untouched left link_left shelf_left after b c i j o p s t
  told_so words ends untouched left link_left shelf_left status after b c i j o p s t same met =
      told words (Serves g shelf_told slot shelf_faults goes bound held given drawn old new) ends untouched left link_left shelf_left status after b c i j o p s t
      (λ tells line ran. serving_to_memory
      (ServeEnds g shelf_told slot shelf_faults goes bound held given drawn line.store line.port line.requests old new) (new ≡ old) status tells ran)
      same met

-- a status whose line tells values is one at which nothing was written
tells_silent : (status : Status) → TellsValues status → IsSilent status
tells_silent Done tells = absurd tells
tells_silent Usage tells = absurd tells
tells_silent (Refused refusal) tells = tt
tells_silent DiskFault tells = absurd tells
tells_silent LinkFault tells = absurd tells
tells_silent ReadFault tells = absurd tells
tells_silent WriteFault tells = absurd tells
tells_silent Memory tells = absurd tells
tells_silent (Foreign fault) tells = tt
tells_silent (Server number tag) tells = tt
tells_silent (BadAnswer place) tells = tt

pub silent_before : (status after : Status) → IsTold status after → IsSilent after → IsSilent status
silent_before status after (inl same) silent = subst IsSilent same silent
silent_before status after (inr (tells, want)) silent = tells_silent status tells

-- a link's fault is told as such
pub link_before : (status after : Status) → IsTold status after → after ≡ LinkFault → status ≡ LinkFault
link_before status after (inl same) is = sym same ∙ is
link_before status after (inr (tells, want)) is =
    let same : Memory ≡ LinkFault = sym want ∙ is in
    cc

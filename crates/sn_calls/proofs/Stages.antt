-- How a call ends, by how its stages do.
use Rattle.std.specs.Prelude.{Option, Some}
use Rattle.std.proofs.Common.{◌≡◌, inl, inr, ℕ, List, [], sym, subst}
use Rattle.rand_chacha.specs.ChaCha.{ChaCha}
use Rattle.sn_client.specs.Calls.{IsOpen}
use Rattle.sn_client.specs.Loads.{IsDeviceError}
use Rattle.sn_device.specs.Runs.{Act, Call, Halt}
use Rattle.sn_device.specs.States.{Bytes}
use Rattle.sn_client.specs.declared.device.Device.{Device}
use Rattle.sn_client.specs.declared.error.DeviceError.{DeviceError}
use Rattle.sn_client.specs.declared.error.DeviceError.TheVariants as load
use Rattle.sn_disk.specs.Disk.{LeavesOnly}
use Rattle.sn_disk.specs.Shelf.{Slot}
use Rattle.sn_disk.specs.declared.disk.Disk.{Ghosts}
use Rattle.sn_io.specs.Causes.{Rose}
use Rattle.sn_net.specs.Exchanges.{Asking, Exchange}
use Rattle.sn_table.specs.Kept.{Kept}
use Rattle.sn_calls.specs.Ends.{CallEnds, DeviceEnds, DiskEnds, Handed, HasCalled, LoadsFrom, RunsCall, Outside, outside}
use Rattle.sn_calls.specs.Making.{HasEnded, HasRun}
use Rattle.sn_calls.specs.Parts.{draws, end_of}
use Rattle.sn_calls.specs.Standing.{StaysRefused}
use Rattle.sn_calls.specs.declared.ends.CallEnd.{CallEnd}
use Rattle.sn_calls.specs.declared.ends.CallEnd.TheVariants.{Answered, Refused, Foreign, Damaged, Rows, DiskFault, LinkFault, Memory}
use Rattle.sn_calls.proofs.Made.{draws_none, draws_on}
use Rattle.sn_calls.proofs.Quiet.{has_some}

module _ {D L R : Type 0} (g : Ghosts D) (asks : L → L → List Exchange → Type 0) (aimed : L → Bytes) (drawn : R → Option (List (List ℕ)))
    (call : Call) (least : ℕ) (back : D) (how : CallEnd) where
  -- a call behind the aiming of the link
  run_behind : (law : Asking L asks) (old mid new : L) (host : Bytes) (kept : Kept) (words : ChaCha) → asks old mid [] → HasRun g asks aimed call (Some host) least mid new kept words back how
      → HasRun g asks aimed call (Some host) least old new kept words back how
  run_behind law old mid new host kept words none run = record {
    acts = run.acts;
    halt = run.halt;
    runs = run.runs;
    asked = (run.asked.0, run.asked.1, run.asked.2, law.more old mid new [] run.asked.1 none run.asked.3);
    ended = run.ended;
  }

  pub makes_behind : (law : Asking L asks) (old mid new : L) (seeds later : R) (server : Option Bytes) (host : Bytes) (kept : Kept) → server ≡ Some host → asks old mid []
      → RunsCall g asks aimed drawn call server least (outside mid seeds) (outside new later) kept back how
      → RunsCall g asks aimed drawn call server least (outside old seeds) (outside new later) kept back how
  makes_behind law old mid new seeds later server host kept is none makes =
      subst (λ (s : Option Bytes). RunsCall g asks aimed drawn call s least (outside old seeds) (outside new later) kept back how) (sym is)
      (draws_on drawn (draws call) seeds later (λ words. HasRun g asks aimed call (Some host) least mid new kept words back how)
      (λ words. HasRun g asks aimed call (Some host) least old new kept words back how)
      (λ words run. run_behind law old mid new host kept words none run)
      (subst (λ (s : Option Bytes). RunsCall g asks aimed drawn call s least (outside mid seeds) (outside new later) kept back how) is makes))

module _ {D L R : Type 0} (g : Ghosts D) (asks : L → L → List Exchange → Type 0) (aimed : L → Bytes) (drawn : R → Option (List (List ℕ)))
    (call : Call) (server : Option Bytes) (least : ℕ) (old new : Outside L R) (device : Device D g) (opens : g.told → (kept : Kept) × IsOpen device kept) (back : D) where
  none_made : (how : CallEnd) → ((kept : Kept) (acts : List Act) (halt : Halt) → HasEnded g kept acts halt back how → ⊥)
      → ((kept : Kept) → IsOpen device kept → RunsCall g asks aimed drawn call server least old new kept back how) → ⊥
  none_made how never makes =
      has_some device opens (λ kept is.
      draws_none drawn (draws call) old.seeds new.seeds (λ words. HasRun g asks aimed call server least old.link new.link kept words back how)
      (λ words run. never kept run.acts run.halt run.ended) (makes kept is))

  -- a device whose call was made ends so
  pub made : (how : CallEnd) → ((kept : Kept) → IsOpen device kept → RunsCall g asks aimed drawn call server least old new kept back how)
      → DeviceEnds g asks aimed drawn call server least old new device back how
  made (Answered given) makes = makes
  made (Refused why) makes = makes
  made (Foreign place) makes = none_made (Foreign place) (λ kept acts halt ended. ended) makes
  made (Damaged place) makes = none_made (Damaged place) (λ kept acts halt ended. ended) makes
  made (Rows kind) makes = none_made (Rows kind) (λ kept acts halt ended. ended) makes
  made DiskFault makes = makes
  made LinkFault makes = absurd (none_made LinkFault (λ kept acts halt ended. ended) makes)
  made Memory makes = absurd (none_made Memory (λ kept acts halt ended. ended) makes)

module _ {D L R : Type 0} (g : Ghosts D) (asks : L → L → List Exchange → Type 0) (aimed : L → Bytes) (drawn : R → Option (List (List ℕ)))
    (call : Call) (server : Option Bytes) (least : ℕ) (old new : Outside L R) (disk back : D) where
  -- a disk that loads ends as its device does
  pub loaded : (device : Device D g) → LoadsFrom g disk device → (end : CallEnd) → DeviceEnds g asks aimed drawn call server least old new device back end
      → DiskEnds g asks aimed drawn call server least old new disk back end
  loaded device loads (Answered given) ends = record { device = device; loads = loads; ends = ends }
  loaded device loads (Refused why) ends = record { device = device; loads = loads; ends = ends }
  loaded device loads (Foreign place) ends = absurd ends
  loaded device loads (Damaged place) ends = absurd ends
  loaded device loads (Rows kind) ends = absurd ends
  loaded device loads DiskFault ends = inr (record { device = device; loads = loads; ends = ends })
  loaded device loads LinkFault ends = record { device = device; loads = loads; ends = ends }
  loaded device loads Memory ends = inr (record { device = device; loads = loads; ends = ends })

  -- one that doesn't, by the error
  pub unloaded : (error : DeviceError) → IsDeviceError g.told (g.seen disk) (g.fault_count disk) (g.fault_count back) error
      → (g.told → LeavesOnly g.moment g.left_since disk back (StaysRefused error (g.may_leave disk) (g.seen disk))) → new ≡ old
      → DiskEnds g asks aimed drawn call server least old new disk back (end_of error)
  unloaded (load.Foreign place) cause stays same = record { cause = cause; stays = stays; untouched = same }
  unloaded (load.Damaged place) cause stays same = record { cause = cause; stays = stays; untouched = same }
  unloaded (load.Rows kind) cause stays same = record { cause = cause; stays = stays; untouched = same }
  unloaded load.DiskFault cause stays same = inl (record { cause = cause; stays = stays; untouched = same })
  unloaded load.Memory cause stays same = inl (record { cause = cause; stays = stays; untouched = same })

module _ {S D L R : Type 0} (g : Ghosts D) (told : Type 0) (slot : S → List ℕ → Slot D) (shelf_faults : S → ℕ)
    (asks : L → L → List Exchange → Type 0) (aimed : L → Bytes) (drawn : R → Option (List (List ℕ)))
    (name : List ℕ) (call : Call) (server : Option Bytes) (least : ℕ) (old new : Handed S L R) where
  -- where the shelf gave a disk, a call ends as its disk did
  pub ended : (end : CallEnd) → HasCalled g told slot shelf_faults asks aimed drawn name call server least old new end
      → CallEnds g told slot shelf_faults asks aimed drawn name call server least old new end
  ended (Answered given) has = has
  ended (Refused why) has = has
  ended (Foreign place) has = has
  ended (Damaged place) has = has
  ended (Rows kind) has = has
  ended DiskFault has = inr has
  ended LinkFault has = has
  ended Memory has = has

-- a fault of the disk has its cause
pub faulted : (told : Type 0) (file : List ℕ) (before after : ℕ) (error : DeviceError) → IsDeviceError told file before after error → end_of error ≡ DiskFault → Rose before after
faulted told file before after (load.Foreign place) cause is = absurd cc
faulted told file before after (load.Damaged place) cause is = absurd cc
faulted told file before after (load.Rows kind) cause is = absurd cc
faulted told file before after load.DiskFault cause is = cause
faulted told file before after load.Memory cause is = absurd cc

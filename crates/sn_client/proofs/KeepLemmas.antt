-- What a call keeps of a device, behind what was done before it.
use Rattle.std.proofs.Common.{arith, ◌≡◌, ◌≢◌, ◌≤◌, ◌∙◌, ℕ, subst, sym}
use Rattle.sn_disk.specs.Disk.{Growing}
use Rattle.sn_disk.specs.declared.disk.Disk.{Ghosts}
use Rattle.sn_io.specs.Causes.{Rose}
use Rattle.sn_client.specs.Calls.{IfBroken, IfRefused, IfStands, called_disk, device_disk}
use Rattle.sn_client.specs.Syncing.{IfOn, IsAnsweredPast, KeepsDevice, MadeAtMost, called_past}
use Rattle.sn_client.specs.declared.called.Called.{Called}
use Rattle.sn_client.specs.declared.called.Called.TheVariants as called
use Rattle.sn_client.specs.declared.device.Device.{Device}
use Rattle.sn_device.specs.declared.error.ClientError.{ClientError}
use Rattle.sn_device.specs.declared.error.ClientError.TheVariants as refusal
use Rattle.sn_client.specs.declared.piece_end.PieceEnd.{PieceEnd}
use Rattle.sn_client.specs.declared.piece_end.PieceEnd.TheVariants.{On, Over}

rises : (before between now : ℕ) → before ≤ between → Rose between now → Rose before now
rises before between now later rose = omega arith

module _ {D : Type 0} {g : Ghosts D} {T : Type 0} where
  same_least : (old mid : Device D g) (result : Called (Device D g) D T) → mid.least_cost ≡ old.least_cost
      → IfStands result (λ device. device.least_cost ≡ mid.least_cost) → IfStands result (λ device. device.least_cost ≡ old.least_cost)
  same_least old mid (called.Done device given) same is = is ∙ same
  same_least old mid (called.Refused device why) same is = is ∙ same
  same_least old mid (called.Broken disk) same is = tt

  rose_since : (before between : ℕ) (result : Called (Device D g) D T) → before ≤ between
      → IfBroken result (λ disk. Rose between (g.fault_count disk)) → IfBroken result (λ disk. Rose before (g.fault_count disk))
  rose_since before between (called.Done device given) later is = tt
  rose_since before between (called.Refused device why) later is = tt
  rose_since before between (called.Broken disk) later is = rises before between (g.fault_count disk) later is

  pub keeps_on : (old mid : Device D g) (result : Called (Device D g) D T) → Growing D g.grows → mid.least_cost ≡ old.least_cost
      → g.grows (device_disk old) (device_disk mid) → g.fault_count (device_disk old) ≤ g.fault_count (device_disk mid)
      → KeepsDevice mid result → KeepsDevice old result
  keeps_on old mid result growing same grows later keeps = record {
    sound = keeps.sound;
    least = same_least old mid result same keeps.least;
    fault = rose_since (g.fault_count (device_disk old)) (g.fault_count (device_disk mid)) result later keeps.fault;
    grows = growing.on (device_disk old) (device_disk mid) (called_disk device_disk result) grows keeps.grows;
    later = (let more = keeps.later in omega arith);
  }

  -- a device that is answered is kept like one that is refused
  pub keeps_done : (old device : Device D g) (why : ClientError) (given : T) → KeepsDevice {T = T} old (called.Refused device why)
      → KeepsDevice old (called.Done device given)
  keeps_done old device why given keeps =
      record { sound = keeps.sound; least = keeps.least; fault = tt; grows = keeps.grows; later = keeps.later }

  -- ---- pieces of a call

  -- the end of a call that goes on from a piece
  pub keeps_answered : (old : Device D g) (went : PieceEnd (Device D g) D T) (result : Called (Device D g) D T) → IsAnsweredPast went result
      → KeepsDevice old (called_past went) → KeepsDevice old result
  keeps_answered old (On device made) result (given, is) keeps =
      subst (λ (c : Called (Device D g) D T). KeepsDevice old c) (sym is) (keeps_done old device refusal.RoundsUsed given keeps)
  keeps_answered old (Over ended) result is keeps = subst (λ (c : Called (Device D g) D T). KeepsDevice old c) (sym is) keeps

module _ {S D T : Type 0} where
  -- a call that goes on is not refused
  pub refused_answered : (went : PieceEnd S D T) (result : Called S D T) (P : ClientError → Type 0) → IsAnsweredPast went result → IfRefused (called_past went) P
      → IfRefused result P
  refused_answered (On device made) result P (given, is) so = subst (λ (c : Called S D T). IfRefused c P) (sym is) tt
  refused_answered (Over ended) result P is so = subst (λ (c : Called S D T). IfRefused c P) (sym is) so

  -- where no piece goes on
  pub never_on : (went : PieceEnd S D T) (P : S → Type 0) → IfOn went (λ device. ⊥) → IfOn went P
  never_on (On device made) P never = absurd never
  never_on (Over result) P never = tt

  pub never_made : (went : PieceEnd S D T) → IfOn went (λ device. ⊥) → MadeAtMost went
  never_made (On device made) never = absurd never
  never_made (Over result) never = tt

  -- a fault of the link is one since earlier too
  pub link_rises : (before between now : ℕ) (result : Called S D T) → before ≤ between
      → IfRefused result (λ why. why ≡ refusal.LinkFault → Rose between now) → IfRefused result (λ why. why ≡ refusal.LinkFault → Rose before now)
  link_rises before between now (called.Done device given) later so = tt
  link_rises before between now (called.Refused device why) later so = λ is. rises before between now later (so is)
  link_rises before between now (called.Broken disk) later so = tt

  pub no_link_rises : (result : Called S D T) (P : Type 0) → IfRefused result (λ why. why ≢ refusal.LinkFault)
      → IfRefused result (λ why. why ≡ refusal.LinkFault → P)
  no_link_rises (called.Done device given) P so = tt
  no_link_rises (called.Refused device why) P so = λ is. absurd (so is)
  no_link_rises (called.Broken disk) P so = tt

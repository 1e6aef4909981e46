-- What a crash leaves of a disk once its call has ended.
use Rattle.std.specs.Prelude.{◌≡◌, ◌≤◌, ◌⊎◌, ℕ, List, map, Option}
use Rattle.std.proofs.Common.{inl, inr, ⊎_elim}
use Rattle.sn_client.specs.Calls.{IsOpen}
use Rattle.sn_client.specs.Loads.{IsDeviceError}
use Rattle.sn_device.specs.Runs.{Call}
use Rattle.sn_device.specs.States.{Bytes}
use Rattle.sn_client.specs.declared.device.Device.{Device}
use Rattle.sn_client.specs.declared.error.DeviceError.{DeviceError}
use Rattle.sn_client.specs.declared.error.DeviceError.TheVariants as load
use Rattle.sn_disk.specs.Disk.{LeavesOnly}
use Rattle.sn_disk.specs.Moments.{weaker}
use Rattle.sn_disk.specs.declared.disk.Disk.{Ghosts}
use Rattle.sn_journal.specs.Findings.{one_finding, same_shown}
use Rattle.sn_journal.specs.Image.{SameBatches}
use Rattle.sn_journal.specs.Laws as finding
use Rattle.sn_journal.specs.Loading.{IsDamaged, IsForeign}
use Rattle.sn_journal.specs.declared.owner.Owner.TheVariants.{Device as DeviceOwner}
use Rattle.sn_net.specs.Exchanges.{Exchange}
use Rattle.sn_rows.specs.Spelling.{spelled}
use Rattle.sn_rows.specs.declared.change.Change.{Change}
use Rattle.sn_table.specs.Batches.{IsStore}
use Rattle.sn_table.specs.Kept.{kept_of}
use Rattle.sn_calls.specs.Ends.{DeviceEnds, DiskStands, Outside}
use Rattle.sn_calls.specs.Making.{EachStands}
use Rattle.sn_calls.specs.Parts.{end_of}
use Rattle.sn_calls.specs.Standing.{Stays, StaysRefused}
use Rattle.sn_calls.specs.declared.ends.CallEnd.{CallEnd}
use Rattle.sn_calls.specs.declared.ends.CallEnd.TheVariants.{Answered, Refused, Foreign, Damaged, Rows, DiskFault, LinkFault, Memory}

foreign_unlike : (file c : List ℕ) (place : ℕ) → IsForeign DeviceOwner file place → SameBatches DeviceOwner file c → ⊥
foreign_unlike file c place is same = let one = one_finding DeviceOwner file (finding.batches same.0) (finding.foreign place) same.1 is in cc

damaged_unlike : (file c : List ℕ) (place : ℕ) → IsDamaged DeviceOwner file place → SameBatches DeviceOwner file c → ⊥
damaged_unlike file c place is same = let one = one_finding DeviceOwner file (finding.batches same.0) (finding.damaged place) same.1 is in cc

-- what a load leaves that is refused
pub stays_refused : {D : Type 0} (moment : D → ℕ) (left_since : D → ℕ → List ℕ → Type 0) (old new : D) (told : Type 0) (before : List ℕ → Type 0) (file : List ℕ) (faults now : ℕ) (error : DeviceError)
    → told → IsDeviceError told file faults now error → LeavesOnly moment left_since old new (Stays before file) → LeavesOnly moment left_since old new (StaysRefused error before file)
stays_refused moment left_since old new told before file faults now (load.Foreign place) t cause run =
    weaker moment left_since old new (Stays before file) before run
    (λ c s. ⊎_elim (λ was. was) (λ same. absurd (foreign_unlike file c place (cause t) same)) s)
stays_refused moment left_since old new told before file faults now (load.Damaged place) t cause run =
    weaker moment left_since old new (Stays before file) (StaysRefused (load.Damaged place) before file) run
    (λ c s. ⊎_elim (λ was. inl was) (λ same. ⊎_elim (λ d. absurd (damaged_unlike file c place d same)) (λ d. inr (d, same)) (cause t)) s)
stays_refused moment left_since old new told before file faults now (load.Rows kind) t cause run = run
stays_refused moment left_since old new told before file faults now load.DiskFault t cause run = run
stays_refused moment left_since old new told before file faults now load.Memory t cause run = run

module _ (before : List ℕ → Type 0) (file : List ℕ) (batches : List (List Change)) (store : IsStore DeviceOwner file batches) (each : (c : List ℕ) → before c → IsStore DeviceOwner c batches) (c : List ℕ) where
  stayed : Stays before file c → IsStore DeviceOwner c batches
  stayed (inl was) = each c was
  stayed (inr same) = record { image = same_shown DeviceOwner file c (map spelled batches) store.image same; each = store.each }

  stayed_refused : (error : DeviceError) → StaysRefused error before file c → IsStore DeviceOwner c batches
  stayed_refused (load.Foreign place) was = each c was
  stayed_refused (load.Damaged place) (inl was) = each c was
  stayed_refused (load.Damaged place) (inr (damaged, same)) = stayed (inr same)
  stayed_refused (load.Rows kind) stays = stayed stays
  stayed_refused load.DiskFault stays = stayed stays
  stayed_refused load.Memory stays = stayed stays

module _ {D L R : Type 0} (g : Ghosts D) (asks : L → L → List Exchange → Type 0) (aimed : L → Bytes) (drawn : R → Option (List (List ℕ)))
    (call : Call) (server : Option Bytes) (least : ℕ) (old new : Outside L R) (told : g.told) (batches : List (List Change)) (back : D) where
  refused_so : EachStands g back batches → (error : DeviceError) → DiskStands g asks aimed drawn call server least old new batches back (end_of error)
  refused_so each (load.Foreign place) = each
  refused_so each (load.Damaged place) = each
  refused_so each (load.Rows kind) = each
  refused_so each load.DiskFault = inl each
  refused_so each load.Memory = each

  -- a store that isn't loaded
  pub refused : (disk : D) → g.may_leave disk (g.seen disk) → EachStands g disk batches
      → (g.moment disk ≤ g.moment back → (c : List ℕ) → g.may_leave back c → g.left_since back (g.moment disk) c)
      → (error : DeviceError) → LeavesOnly g.moment g.left_since disk back (StaysRefused error (g.may_leave disk) (g.seen disk))
      → DiskStands g asks aimed drawn call server least old new batches back (end_of error)
  refused disk seen each since error stays =
      refused_so (λ c left. stayed_refused (g.may_leave disk) (g.seen disk) batches (each (g.seen disk) seen) each c error (stays.each c (since stays.later c left))) error

  -- one whose device was called
  pub called : (device : Device D g) → IsOpen device (kept_of batches) → (end : CallEnd) → DeviceEnds g asks aimed drawn call server least old new device back end
      → DiskStands g asks aimed drawn call server least old new batches back end
  called device is (Answered given) ends = ends (kept_of batches) is
  called device is (Refused why) ends = ends (kept_of batches) is
  called device is (Foreign place) ends = absurd ends
  called device is (Damaged place) ends = absurd ends
  called device is (Rows kind) ends = absurd ends
  called device is DiskFault ends = inr (ends (kept_of batches) is)
  called device is LinkFault ends = ends.stands told (kept_of batches) is
  called device is Memory ends = ends.stands told (kept_of batches) is

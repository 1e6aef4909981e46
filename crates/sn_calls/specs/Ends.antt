-- How a call of a device on the store of a name ends, by what was handed in.
use Rattle.std.specs.Prelude.{◌≡◌, ◌≢◌, ◌⊎◌, ℕ, List, [], ◌∷◌, ◌++◌, Option, Some}
use Rattle.rand_chacha.specs.ChaCha.{ChaCha}
use Rattle.sn_client.specs.Calls.{IsOpen, device_disk, device_rows}
use Rattle.sn_client.specs.Loads.{IsDeviceError, IsLoaded}
use Rattle.sn_device.specs.Runs.{Call}
use Rattle.sn_device.specs.States.{Bytes, IsSound}
use Rattle.sn_client.specs.declared.device.Device.{Device}
use Rattle.sn_client.specs.declared.error.DeviceError.{DeviceError}
use Rattle.sn_client.specs.declared.error.DeviceError.TheVariants as load
use Rattle.sn_disk.specs.Disk.{LeavesOnly}
use Rattle.sn_disk.specs.Shelf.{Slot, holds}
use Rattle.sn_disk.specs.declared.disk.Disk.{Ghosts}
use Rattle.sn_io.specs.Causes.{Rose}
use Rattle.sn_journal.specs.declared.owner.Owner.TheVariants.{Device as DeviceOwner}
use Rattle.sn_net.specs.Exchanges.{Exchange}
use Rattle.sn_rows.specs.declared.change.Change.{Change}
use Rattle.sn_table.specs.Batches.{IsAllOrNothing}
use Rattle.sn_table.specs.Kept.{Kept, kept_of}
use Rattle.sn_calls.specs.Making.{Draws, EachStands, HasRun}
use Rattle.sn_calls.specs.Parts.{draws}
use Rattle.sn_calls.specs.Standing.{StaysRefused}
use Rattle.sn_calls.specs.declared.ends.CallEnd.{CallEnd}
use Rattle.sn_calls.specs.declared.ends.CallEnd.TheVariants.{Answered, Refused, Foreign, Damaged, Rows, DiskFault, LinkFault, Memory}

-- The device was loaded from this disk: with what its bytes stand for, and with the batches that each crash might have left of
-- it, of which it may have a last one whole or not at all. Its rows are sound, also where the disk tells nothing.
pub record LoadsFrom {D : Type 0} (g : Ghosts D) (disk : D) (device : Device D g) : Type 0 where
  pub sound : IsSound (device_rows device)
  pub loaded : g.told → IsLoaded {S = Device D g} IsOpen (g.seen disk) device
  pub same : g.told → (batches : List (List Change)) → EachStands g disk batches → IsOpen device (kept_of batches)
  pub either : g.told → (batches : List (List Change)) (changes : List Change) → ((c : List ℕ) → g.may_leave disk c → IsAllOrNothing DeviceOwner batches changes c)
      → IsOpen device (kept_of batches) ⊎ IsOpen device (kept_of (batches ++ changes ∷ []))

-- what a call is handed beside its disk
pub record Outside (L R : Type 0) : Type 0 where
  pub link : L
  pub seeds : R

abbrev pub outside : {L R : Type 0} → L → R → Outside L R
outside link seeds = record { link = link; seeds = seeds }

module _ {D L R : Type 0} (g : Ghosts D) (asks : L → L → List Exchange → Type 0) (aimed : L → Bytes) (drawn : R → Option (List (List ℕ)))
    (call : Call) (server : Option Bytes) (least : ℕ) (old new : Outside L R) where
  -- its run on a device that had this
  abbrev pub RunsCall : Kept → D → CallEnd → Type 0
  RunsCall kept back end = Draws drawn (draws call) old.seeds new.seeds (λ words. HasRun g asks aimed call server least old.link new.link kept words back end)

  -- The disk has no store that loads, for this cause. It isn't written over (`StaysRefused`), and all else is as it was.
  pub record IsUnloaded (disk back : D) (error : DeviceError) : Type 0 where
    pub cause : IsDeviceError g.told (g.seen disk) (g.fault_count disk) (g.fault_count back) error
    pub stays : g.told → LeavesOnly g.moment g.left_since disk back (StaysRefused error (g.may_leave disk) (g.seen disk))
    pub untouched : new ≡ old

  -- The link couldn't be aimed at the server. Nothing was asked, and nothing is changed.
  pub record IsUnaimed (device : Device D g) (back : D) : Type 0 where
    pub host : Bytes
    pub due : server ≡ Some host
    pub back_is : back ≡ device_disk device
    pub stands : g.told → (kept : Kept) → IsOpen device kept → EachStands g back kept.batches
    pub aim : aimed new.link ≡ aimed old.link
    pub unasked : asks old.link new.link []
    pub undrawn : new.seeds ≡ old.seeds

  -- how a call of a device ends
  abbrev pub DeviceEnds : Device D g → D → CallEnd → Type 0
  DeviceEnds device back (Answered given) = (kept : Kept) → IsOpen device kept → RunsCall kept back (Answered given)
  DeviceEnds device back (Refused why) = (kept : Kept) → IsOpen device kept → RunsCall kept back (Refused why)
  DeviceEnds device back (Foreign place) = ⊥
  DeviceEnds device back (Damaged place) = ⊥
  DeviceEnds device back (Rows kind) = ⊥
  DeviceEnds device back DiskFault = (kept : Kept) → IsOpen device kept → RunsCall kept back DiskFault
  DeviceEnds device back LinkFault = IsUnaimed device back
  DeviceEnds device back Memory = IsUnaimed device back

  -- the disk's device was loaded, and its call ended so
  pub record IsCalled (disk back : D) (end : CallEnd) : Type 0 where
    pub device : Device D g
    pub loads : LoadsFrom g disk device
    pub ends : DeviceEnds device back end

  -- how a call on a disk ends
  abbrev pub DiskEnds : D → D → CallEnd → Type 0
  DiskEnds disk back (Answered given) = IsCalled disk back (Answered given)
  DiskEnds disk back (Refused why) = IsCalled disk back (Refused why)
  DiskEnds disk back (Foreign place) = IsUnloaded disk back (load.Foreign place)
  DiskEnds disk back (Damaged place) = IsUnloaded disk back (load.Damaged place)
  DiskEnds disk back (Rows kind) = IsUnloaded disk back (load.Rows kind)
  DiskEnds disk back DiskFault = IsUnloaded disk back load.DiskFault ⊎ IsCalled disk back DiskFault
  DiskEnds disk back LinkFault = IsCalled disk back LinkFault
  DiskEnds disk back Memory = IsUnloaded disk back load.Memory ⊎ IsCalled disk back Memory

  -- What a crash leaves of a disk whose every outcome stood for these batches, and where the call was made, its run on them.
  abbrev pub DiskStands : List (List Change) → D → CallEnd → Type 0
  DiskStands batches back (Answered given) = RunsCall (kept_of batches) back (Answered given)
  DiskStands batches back (Refused why) = RunsCall (kept_of batches) back (Refused why)
  DiskStands batches back (Foreign place) = EachStands g back batches
  DiskStands batches back (Damaged place) = EachStands g back batches
  DiskStands batches back (Rows kind) = EachStands g back batches
  DiskStands batches back DiskFault = EachStands g back batches ⊎ RunsCall (kept_of batches) back DiskFault
  DiskStands batches back LinkFault = EachStands g back batches
  DiskStands batches back Memory = EachStands g back batches

-- all that a call is handed
pub record Handed (S L R : Type 0) : Type 0 where
  pub shelf : S
  pub link : L
  pub seeds : R

abbrev pub handed : {S L R : Type 0} → S → L → R → Handed S L R
handed shelf link seeds = record { shelf = shelf; link = link; seeds = seeds }

abbrev pub outside_in : {S L R : Type 0} → Handed S L R → Outside L R
outside_in all = outside all.link all.seeds

module _ {S D L R : Type 0} (g : Ghosts D) (told : Type 0) (slot : S → List ℕ → Slot D) (shelf_faults : S → ℕ)
    (asks : L → L → List Exchange → Type 0) (aimed : L → Bytes) (drawn : R → Option (List (List ℕ)))
    (name : List ℕ) (call : Call) (server : Option Bytes) (least : ℕ) (old new : Handed S L R) where
  -- the shelf gave no disk, and all else is as it was
  pub record HasNoDisk : Type 0 where
    pub rose : Rose (shelf_faults old.shelf) (shelf_faults new.shelf)
    pub stays : told → slot new.shelf name ≡ slot old.shelf name
    pub others : told → (other : List ℕ) → other ≢ name → slot new.shelf other ≡ slot old.shelf other
    pub untouched : outside_in new ≡ outside_in old

  -- The disk of this name was taken, and given back once the call had ended so. It is the same disk, gone on, and no other has
  -- changed. What a crash leaves of it then, `stands` says.
  pub record HasCalled (end : CallEnd) : Type 0 where
    pub disk : D
    pub back : D
    pub taken : told → slot old.shelf name ≡ holds disk
    pub returned : told → slot new.shelf name ≡ holds back
    pub others : told → (other : List ℕ) → other ≢ name → slot new.shelf other ≡ slot old.shelf other
    pub grows : g.grows disk back
    pub ends : DiskEnds g asks aimed drawn call server least (outside_in old) (outside_in new) disk back end
    pub stands : g.told → (batches : List (List Change)) → EachStands g disk batches
        → DiskStands g asks aimed drawn call server least (outside_in old) (outside_in new) batches back end
    pub cause : end ≡ DiskFault → Rose (g.fault_count disk) (g.fault_count back)

  -- how a call ends
  abbrev pub CallEnds : CallEnd → Type 0
  CallEnds (Answered given) = HasCalled (Answered given)
  CallEnds (Refused why) = HasCalled (Refused why)
  CallEnds (Foreign place) = HasCalled (Foreign place)
  CallEnds (Damaged place) = HasCalled (Damaged place)
  CallEnds (Rows kind) = HasCalled (Rows kind)
  CallEnds DiskFault = HasNoDisk ⊎ HasCalled DiskFault
  CallEnds LinkFault = HasCalled LinkFault
  CallEnds Memory = HasCalled Memory

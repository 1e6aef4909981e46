-- What loading a table leaves of a device.
use Rattle.std.specs.Prelude.{◌≡◌, ◌⊎◌, ◌+◌, ℕ, List, Some, Result, Ok, Err, IfOk, IfErr, OnOk}
use Rattle.std.proofs.Common.{arith, inl, inr, sym, ap, subst}
use Rattle.std.proofs.Math.Path.{fun_ext}
use Rattle.sn_disk.specs.Disk.{Counts}
use Rattle.sn_disk.specs.declared.disk.Disk.{Ghosts}
use Rattle.sn_journal.specs.declared.owner.Owner.TheVariants.{Device as DeviceOwner}
use Rattle.sn_rows.specs.Table.{Rows, rows_of_batches}
use Rattle.sn_rows.specs.declared.change.Change.{Change}
use Rattle.sn_table.specs.Batches.{IsStore}
use Rattle.sn_table.specs.Kept.{kept_of}
use Rattle.sn_table.specs.Tables.{IsOpen as IsOpenTable, IsOpened, table_disk}
use Rattle.sn_table.specs.declared.table.Table.{Table}
use Rattle.sn_client.specs.Calls.{IsOpen, device_disk}
use Rattle.sn_client.specs.Loads.{IsDeviceError, IsLoaded, IsOpenError, given_disk}
use Rattle.sn_device.specs.States.{IsFirstUnsound}
use Rattle.sn_client.specs.declared.device.Device.{Device}
use Rattle.sn_client.specs.declared.error.DeviceError.{DeviceError}
use Rattle.sn_client.specs.declared.error.DeviceError.TheVariants as device

module _ {D : Type 0} {g : Ghosts D} where
  -- a device of this table
  abbrev pub IsOfTable : Table D g → Result (Device D g) (D × DeviceError) → Type 0
  IsOfTable table result = IfOk result (λ device. device.table ≡ table) × IfErr result (λ refusal. refusal.0 ≡ table_disk table)

  pub given_same : (table : Table D g) (result : Result (Device D g) (D × DeviceError)) → IsOfTable table result → given_disk device_disk result ≡ table_disk table
  given_same table (Ok device) of = ap (λ (t : Table D g). table_disk t) of.0
  given_same table (Err refusal) of = of.1

  opens_of : (table : Table D g) (batches : List (List Change)) (held : Device D g) → held.table ≡ table → IsOpenTable table batches → IsOpen held (kept_of batches)
  opens_of table batches held of opens =
      let same : IsOpenTable held.table batches = subst (λ (t : Table D g). IsOpenTable t batches) (sym of) opens in
      record { rows_are = fun_ext same.rows_are; stands = λ told. same }

  pub opens : (table : Table D g) (batches : List (List Change)) (result : Result (Device D g) (D × DeviceError)) → IsOfTable table result → IsOpenTable table batches
      → IfOk result (λ device. IsOpen device (kept_of batches))
  opens table batches (Ok device) of stands = opens_of table batches device of.0 stands
  opens table batches (Err refusal) of stands = of.0

  pub opens_either : (table : Table D g) (one other : List (List Change)) (result : Result (Device D g) (D × DeviceError)) → IsOfTable table result
      → IsOpenTable table one ⊎ IsOpenTable table other → IfOk result (λ device. IsOpen device (kept_of one) ⊎ IsOpen device (kept_of other))
  opens_either table one other (Ok device) of (inl stands) = inl (opens_of table one device of.0 stands)
  opens_either table one other (Ok device) of (inr stands) = inr (opens_of table other device of.0 stands)
  opens_either table one other (Err refusal) of stands = of.0

  pub loads : (file : List ℕ) (table : Table D g) (result : Result (Device D g) (D × DeviceError)) → IsOfTable table result → IsOpened DeviceOwner file table
      → IfOk result (IsLoaded IsOpen file)
  loads file table (Ok device) of found = (found.batches, found.store, opens_of table found.batches device of.0 found.has)
  loads file table (Err refusal) of found = of.0

-- what holds of the disk holds where there is a device
pub on_ok : {T E : Type 0} (P : Type 0) (result : Result T E) → P → OnOk result P
on_ok P (Ok given) p = p
on_ok P (Err error) p = tt

pub counted : {T E : Type 0} (calls before now : ℕ) (result : Result T E) → now ≡ before + calls → Counts calls before now result
counted calls before now result is = record { done = on_ok (now ≡ before + calls) result is; most = omega arith }

open_error : (told : Type 0) (file : List ℕ) (rows : Rows) (faults now : ℕ) (error : DeviceError)
    → (told → (batches : List (List Change)) × IsStore DeviceOwner file batches × (rows ≡ rows_of_batches batches)) → IsOpenError rows error → IsDeviceError told file faults now error
open_error told file rows faults now (device.Foreign place) found cause = absurd cause
open_error told file rows faults now (device.Damaged place) found cause = absurd cause
open_error told file rows faults now (device.Rows kind) found cause = λ t.
    let (batches, store, are) = found t in
    (batches, store, subst (λ (r : Rows). IsFirstUnsound r (Some kind)) are cause)
open_error told file rows faults now device.DiskFault found cause = absurd cause
open_error told file rows faults now device.Memory found cause = tt

pub open_errors : {S D : Type 0} (count : D → ℕ) (told : Type 0) (file : List ℕ) (rows : Rows) (faults : ℕ) (result : Result S (D × DeviceError))
    → (told → (batches : List (List Change)) × IsStore DeviceOwner file batches × (rows ≡ rows_of_batches batches)) → IfErr result (λ refusal. IsOpenError rows refusal.1)
    → IfErr result (λ refusal. IsDeviceError told file faults (count refusal.0) refusal.1)
open_errors count told file rows faults (Ok given) found cause = cause
open_errors count told file rows faults (Err refusal) found cause = open_error told file rows faults (count refusal.0) refusal.1 found cause

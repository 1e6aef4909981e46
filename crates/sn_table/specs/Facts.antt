-- Facts on stores, logs and tables, for the crates above.
use Rattle.std.proofs.Common.{◌≡◌, ℕ, Bool, true, false, List, [], ◌∷◌, Option, Some, length, refl, sym, ap, subst, ◌∙◌, All}
use Rattle.std.specs.Prelude.{map, Ok, Err, Result, IfOk, IfErr, if◌then◌else◌}
use Rattle.std.proofs.lemmas.List.{length-map}
use Rattle.std.proofs.lemmas.List.Elements.{All-head, All-tail}
use Rattle.sn_disk.specs.declared.disk.Disk.{Ghosts}
use Rattle.sn_journal.specs.Findings.{one_image, one_finding}
use Rattle.sn_journal.specs.Laws as finding
use Rattle.sn_journal.specs.Loading.{IsNoImage}
use Rattle.sn_journal.specs.declared.error.JournalError.{JournalError}
use Rattle.sn_journal.specs.declared.error.JournalError.TheVariants.{Foreign, Damaged, DiskFault, Memory}
use Rattle.sn_journal.specs.Image.{IsImage}
use Rattle.sn_journal.specs.AtRest.{durable_each}
use Rattle.sn_journal.specs.declared.owner.Owner.{Owner}
use Rattle.sn_row_map.specs.RowMaps.{row_in}
use Rattle.sn_row_map.specs.declared.row_map.RowMap.{RowMap}
use Rattle.sn_rows.proofs.Facts.{is_only, payload_again}
use Rattle.sn_rows.specs.Facts.{kind_after}
use Rattle.sn_rows.specs.Kinds.{key_kind, value_kind}
use Rattle.sn_rows.specs.Spelling.{spelled, entries_of, AreInForm}
use Rattle.sn_rows.specs.Table.{changed, key_of, row_after, same_key, value_of}
use Rattle.sn_rows.specs.declared.change.Change.{Change}
use Rattle.sn_rows.specs.declared.change.Change.TheVariants.{Put, Remove}
use Rattle.sn_rows.specs.declared.key.Key.{Key}
use Rattle.sn_rows.specs.declared.value.Value.{Value}
use Rattle.sn_table.specs.Batches.{IsBatch, IsStore}
use Rattle.sn_table.specs.Logs.{StandsFor, HasKinds, log_disk, log_owner}
use Rattle.sn_table.specs.Tables.{IsOpen, table_disk, table_owner}
use Rattle.sn_table.specs.declared.log.Log.{Log}
use Rattle.sn_table.specs.declared.table.Table.{Table}

-- the same spelling is of the same changes
spelled_once : (x y : List Change) → AreInForm x → AreInForm y → spelled x ≡ spelled y → x ≡ y
spelled_once x y fx fy e = is_only (spelled x) y (Ok x) fy e (payload_again (entries_of x) fx)

pub batches_once : (owner : Owner) (xs ys : List (List Change)) → All (IsBatch owner) xs → All (IsBatch owner) ys → map spelled xs ≡ map spelled ys → xs ≡ ys
batches_once owner [] [] ax ay e = refl
batches_once owner (x ∷ xs) (y ∷ ys) ax ay e =
    let first : x ≡ y = spelled_once x y (All-head (IsBatch owner) x xs ax).in_form (All-head (IsBatch owner) y ys ay).in_form (cc) in
    let others : xs ≡ ys = batches_once owner xs ys (All-tail (IsBatch owner) x xs ax) (All-tail (IsBatch owner) y ys ay) (cc) in
    cc
batches_once owner [] (y ∷ ys) ax ay e = absurd cc
batches_once owner (x ∷ xs) [] ax ay e = absurd cc

-- a file stands for one list of batches
pub one_store : (owner : Owner) (file : List ℕ) (a b : List (List Change)) → IsStore owner file a → IsStore owner file b → a ≡ b
one_store owner file a b s t = batches_once owner a b s.each t.each (one_image owner file (map spelled a) (map spelled b) s.image t.image)

-- as many payloads as batches
pub as_many : (owner : Owner) (file : List ℕ) (batches : List (List Change)) (payloads : List (List ℕ)) → IsStore owner file batches → IsImage owner file payloads → length payloads ≡ length batches
as_many owner file batches payloads store image = ap length (one_image owner file payloads (map spelled batches) image store.image) ∙ length-map batches spelled

-- the count of a store's batches
pub counted_store : (owner : Owner) (file : List ℕ) (batches : List (List Change)) (r : Result ℕ JournalError) → IsStore owner file batches
    → IfOk r (λ count. (payloads : List (List ℕ)) × IsImage owner file payloads × (count ≡ length payloads)) → IfErr r (IsNoImage owner file) → r ≡ Ok (length batches)
counted_store owner file batches (Ok count) store found none = ap Ok (found.2 ∙ as_many owner file batches found.0 store found.1)
counted_store owner file batches (Err (Foreign place)) store found none = absurd (let same = one_finding owner file (finding.batches (map spelled batches)) (finding.foreign place) store.image none in cc)
counted_store owner file batches (Err (Damaged place)) store found none = absurd (let same = one_finding owner file (finding.batches (map spelled batches)) (finding.damaged place) store.image none in cc)
counted_store owner file batches (Err DiskFault) store found none = absurd none
counted_store owner file batches (Err Memory) store found none = absurd none

module _ {D : Type 0} {g : Ghosts D} where
  -- a crash leaves the batches of a log
  pub log_each : (log : Log D g) (batches : List (List Change)) → StandsFor log batches → (c : List ℕ) → g.may_leave (log_disk log) c → IsStore (log_owner log) c batches
  log_each log batches stands c left = record { image = durable_each log.journal (map spelled batches) stands.durably c left; each = stands.each }

  -- a crash leaves the batches of a table
  pub open_each : (table : Table D g) (batches : List (List Change)) → IsOpen table batches → (c : List ℕ) → g.may_leave (table_disk table) c → IsStore (table_owner table) c batches
  open_each table batches o = log_each table.log batches o.log_has

pub kinds_after : (old new : RowMap) (changes : List Change) → HasKinds old → ((key : Key) → row_in new key ≡ row_after (row_in old key) key changes) → HasKinds new
kinds_after old new changes kinds rows key value is = kind_after (row_in old key) key changes (kinds key) value (sym (rows key) ∙ is)

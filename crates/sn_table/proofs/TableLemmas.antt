-- What tables have, from what their journals have.
use Rattle.std.proofs.Common.{◌≡◌, ◌⊎◌, inl, inr, ℕ, List, [], ◌∷◌, ◌++◌, get_or, sym, ap, subst, ◌∙◌, All}
use Rattle.std.specs.Prelude.{map, Result, Ok, Err, IfOk}
use Rattle.std.proofs.lemmas.List.{map-append}
use Rattle.std.proofs.lemmas.List.Elements.{All-push, Contains-get_or}
use Rattle.std.specs.declared.alloc.AllocError.{AllocError}
use Rattle.sn_disk.specs.declared.disk.Disk.{Ghosts}
use Rattle.sn_journal.specs.Image.{IsImage, IsBeforeOrAfter, SameBatches}
use Rattle.std.specs.declared.alloc.Global.{Global}
use Rattle.sn_journal.specs.Reading.{AreIn}
use Rattle.sn_journal.specs.AtRest.{HasDurably, IsLoaded as IsJournal, owner_of}
use Rattle.sn_journal.specs.declared.journal.Journal.{Journal}
use Rattle.sn_table.specs.Reading.{AreRead}
use Rattle.sn_journal.specs.declared.owner.Owner.{Owner}
use Rattle.sn_journal.specs.Findings.{same_shown}
use Rattle.sn_row_map.specs.Ranges.{AreRowsOf}
use Rattle.sn_rows.specs.Kinds.{key_kind, value_kind}
use Rattle.sn_rows.specs.Spelling.{spelled}
use Rattle.sn_rows.specs.declared.kind.RowKind.{RowKind}
use Rattle.sn_rows.specs.declared.value.Value.{Value}
use Rattle.sn_rows.specs.Table.{row_after, rows_of_batches}
use Rattle.sn_rows.specs.declared.change.Change.{Change}
use Rattle.sn_rows.specs.declared.key.Key.{Key}
use Rattle.sn_rows.specs.Facts.{batch_follows}
use Rattle.sn_table.specs.Batches.{IsBatch, IsStore, IsAllOrNothing}
use Rattle.sn_row_map.specs.RowMaps.{row_in}
use Rattle.sn_row_map.specs.declared.row_map.RowMap.{RowMap}
use Rattle.sn_table.specs.Facts.{one_store}
use Rattle.sn_table.specs.Logs.{StandsFor, HasKinds, HasRows, IsLoaded, log_owner}
use Rattle.sn_table.specs.declared.log.Log.{Log}
use Rattle.sn_table.specs.declared.error.TableError.{TableError}

pub same_store : (owner : Owner) (file other : List ℕ) (batches : List (List Change)) → IsStore owner file batches → SameBatches owner file other → IsStore owner other batches
same_store owner file other batches s shown = record { image = same_shown owner file other (map spelled batches) s.image shown; each = s.each }

pub same_either : (owner : Owner) (file other : List ℕ) (batches : List (List Change)) (changes : List Change) → IsAllOrNothing owner batches changes file → SameBatches owner file other → IsAllOrNothing owner batches changes other
same_either owner file other batches changes (inl s) shown = inl (same_store owner file other batches s shown)
same_either owner file other batches changes (inr s) shown = inr (same_store owner file other (batches ++ changes ∷ []) s shown)

-- the journal's images as the table's
pub all_or_nothing : (owner : Owner) (file : List ℕ) (batches : List (List Change)) (changes : List Change) (payload : List ℕ) → All (IsBatch owner) batches → IsBatch owner changes → payload ≡ spelled changes
    → IsBeforeOrAfter owner (map spelled batches) payload file → IsAllOrNothing owner batches changes file
all_or_nothing owner file batches changes payload each b is (inl image) = inl record { image = image; each = each }
all_or_nothing owner file batches changes payload each b is (inr image) = inr record {
  image = subst (IsImage owner file) (ap (λ (p : List ℕ). map spelled batches ++ p ∷ []) is ∙ sym (map-append spelled batches (changes ∷ []))) image;
  each = All-push (IsBatch owner) batches changes each b;
}

module _ {D : Type 0} {g : Ghosts D} where
  -- the batches of a file are those that were loaded
  pub same_rows : (owner : Owner) (file : List ℕ) (batches : List (List Change)) (log : Log D g) (rows : RowMap) → IsLoaded owner file log rows → IsStore owner file batches → HasRows log rows batches
  same_rows owner file batches log rows l s = subst (HasRows log rows) (one_store owner file l.batches batches l.store s) l.has

  pub either_rows : (owner : Owner) (file : List ℕ) (batches : List (List Change)) (changes : List Change) (log : Log D g) (rows : RowMap) → IsLoaded owner file log rows → IsAllOrNothing owner batches changes file
      → HasRows log rows batches ⊎ HasRows log rows (batches ++ changes ∷ [])
  either_rows owner file batches changes log rows l (inl s) = inl (same_rows owner file batches log rows l s)
  either_rows owner file batches changes log rows l (inr s) = inr (same_rows owner file (batches ++ changes ∷ []) log rows l s)

  -- of what loading gives
  pub same_found : (owner : Owner) (file : List ℕ) (batches : List (List Change)) (r : Result (Log D g × RowMap) (D × TableError)) → IfOk r (λ found. IsLoaded owner file found.0 found.1) → IsStore owner file batches → IfOk r (λ found. HasRows found.0 found.1 batches)
  same_found owner file batches (Ok found) l s = same_rows owner file batches found.0 found.1 l s
  same_found owner file batches (Err e) l s = tt

  pub either_found : (owner : Owner) (file : List ℕ) (batches : List (List Change)) (changes : List Change) (r : Result (Log D g × RowMap) (D × TableError)) → IfOk r (λ found. IsLoaded owner file found.0 found.1) → IsAllOrNothing owner batches changes file
      → IfOk r (λ found. HasRows found.0 found.1 batches ⊎ HasRows found.0 found.1 (batches ++ changes ∷ []))
  either_found owner file batches changes (Ok found) l s = either_rows owner file batches changes found.0 found.1 l s
  either_found owner file batches changes (Err e) l s = tt

  abbrev log_of : Global → Journal D g → Log D g
  log_of alloc journal = record { alloc = alloc; journal = journal }

  -- a loaded journal whose payloads were read
  pub loaded_of : (owner : Owner) (file : List ℕ) (alloc : Global) (journal : Journal D g) (bytes : List ℕ) (rows : RowMap) (log : Log D g) → IsJournal owner file journal bytes → owner_of journal ≡ owner
      → ((payloads : List (List ℕ)) → AreIn bytes payloads → AreRead owner payloads rows) → log ≡ record { alloc = alloc; journal = journal } → IsLoaded owner file log rows
  loaded_of owner file alloc journal bytes rows log l own reads is =
      let r = reads l.payloads l.read.read in
      let stands : StandsFor (log_of alloc journal) r.batches = record {
        durably = subst (λ (ps : List (List ℕ)). HasDurably journal ps) r.are l.read.durably;
        each = subst (λ (w : Owner). All (IsBatch w) r.batches) (sym own) r.each;
      } in
      record {
        batches = r.batches;
        has = record { log_has = subst (λ (x : Log D g). StandsFor x r.batches) (sym is) stands; rows_are = r.rows };
        store = record { image = subst (IsImage owner file) r.are l.image; each = r.each };
      }

  -- one batch more
  pub stands_more : (old new : Log D g) (batches : List (List Change)) (changes : List Change) (payload : List ℕ) → StandsFor old batches → HasDurably new.journal (map spelled batches ++ payload ∷ []) → payload ≡ spelled changes
      → log_owner new ≡ log_owner old → IsBatch (log_owner old) changes → StandsFor new (batches ++ changes ∷ [])
  stands_more old new batches changes payload o s is own b = record {
    durably = subst (HasDurably new.journal) (ap (λ (p : List ℕ). map spelled batches ++ p ∷ []) is ∙ sym (map-append spelled batches (changes ∷ []))) s;
    each = subst (λ (w : Owner). All (IsBatch w) (batches ++ changes ∷ [])) (sym own) (All-push (IsBatch (log_owner old)) batches changes o.each b);
  }

-- the rows after one batch more
pub rows_more : (old new : RowMap) (batches : List (List Change)) (changes : List Change) → ((key : Key) → row_in old key ≡ rows_of_batches batches key) → ((key : Key) → row_in new key ≡ row_after (row_in old key) key changes)
    → (key : Key) → row_in new key ≡ rows_of_batches (batches ++ changes ∷ []) key
rows_more old new batches changes were rows key = rows key ∙ ap (λ found. row_after found key changes) (were key) ∙ sym (batch_follows batches changes key)

-- the rows of a kind have values of it
pub range_kinds : (map : RowMap) (kind : RowKind) (rows : List (Key × Value)) → AreRowsOf map kind rows → HasKinds map → All (λ row. (key_kind row.0 ≡ kind) × (value_kind row.1 ≡ kind)) rows
range_kinds map kind rows are kinds = λ k d below.
    let row = get_or rows k d in
    let is = (are.whole row.0 row.1).0 (Contains-get_or rows k d below) in
    (is.0, sym (kinds row.0 row.1 is.1) ∙ is.0)

pub range_of_kind : (map : RowMap) (kind : RowKind) (r : Result (List (Key × Value)) AllocError) → IfOk r (AreRowsOf map kind) → HasKinds map → IfOk r (λ rows. All (λ row. (key_kind row.0 ≡ kind) × (value_kind row.1 ≡ kind)) rows)
range_of_kind map kind (Ok rows) are kinds = range_kinds map kind rows are kinds
range_of_kind map kind (Err e) are kinds = tt

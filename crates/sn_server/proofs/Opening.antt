-- How rows are opened, and the first commit.
use Rattle.std.specs.Prelude.{◌≡◌, ◌⊎◌, ◌++◌, ℕ, Bool, true, false, not, List, [], ◌∷◌, Option, Some, None, Result, Ok, Err, IfOk, IfErr, if◌then◌else◌}
use Rattle.std.specs.Borrow.{Bor}
use Rattle.std.specs.Option.{is_some}
use Rattle.std.proofs.Common.{inl, inr, refl, ◌∙◌, ap, subst}
use Rattle.std.proofs.Math.Path.{fun_ext}
use Rattle.rand_chacha.specs.ChaCha.{ChaCha}
use Rattle.sn_items.specs.Draws.{drawn}
use Rattle.sn_journal.specs.declared.owner.Owner.TheVariants.{Server as ServerOwner}
use Rattle.sn_row_map.specs.RowMaps.{row_in}
use Rattle.sn_row_map.specs.Steps.{IsFirst as IsFirstRow, lent}
use Rattle.sn_row_map.specs.declared.row_map.RowMap.{RowMap}
use Rattle.sn_rows.specs.Table.{Rows, rows_after, rows_of_batches, same_key, value_of}
use Rattle.sn_rows.specs.declared.change.Change.{Change}
use Rattle.sn_rows.specs.declared.key.Key.{Key}
use Rattle.sn_rows.specs.declared.key.Key.TheVariants as key
use Rattle.sn_rows.specs.declared.kind.RowKind.{RowKind}
use Rattle.sn_rows.specs.declared.value.Value.{Value}
use Rattle.sn_rows.specs.declared.value.Value.TheVariants as value
use Rattle.sn_account.specs.Sound.{IsSound}
use Rattle.sn_account.specs.Unsound.{IsFirstUnsound}
use Rattle.sn_account.proofs.Facts.{first_sound}
use Rattle.sn_table.specs.Batches.{IsStore}
use Rattle.sn_server.specs.Beginning.{IsBegun, PutsFirst}
use Rattle.sn_server.specs.Emptiness.{IsKindEmptyIff}
use Rattle.sn_server.specs.Loads.{HasSome, IsEmpty, IsFirst, IsLoaded, IsOpenError, IsServerError, Opens, kept_of}
use Rattle.sn_server.specs.Stores.{Kept}
use Rattle.sn_server.specs.declared.error.ServerError.{ServerError}
use Rattle.sn_server.specs.declared.error.ServerError.TheVariants.{Foreign, Damaged, Rows as UnsoundRows, DiskFault, Memory}

pub kind_empty : (map : RowMap) (kind : RowKind) (found : Option (Bor Key × Bor Value)) (b : Bool) → IsFirstRow map kind (lent found) → is_some found ≡ not b → IsKindEmptyIff (row_in map) kind b
kind_empty map kind None true first is = first
kind_empty map kind None false first is = absurd cc
kind_empty map kind (Some row) true first is = absurd cc
kind_empty map kind (Some row) false first is = (row.0.now, row.1.now, first.stands)

-- a list that was empty has just what was put into it
pub just_one : (changes old : List Change) (change : Change) → changes ≡ old ++ change ∷ [] → old ≡ [] → changes ≡ change ∷ []
just_one changes old change is none = is ∙ ap (λ (l : List Change). l ++ change ∷ []) none

pub first_of : (secret : List ℕ) (changes old : List Change) (change : Change) → PutsFirst secret change → changes ≡ old ++ change ∷ [] → old ≡ [] → IsFirst secret changes
first_of secret changes old change p is none = record {
  store = p.store;
  secret_is = p.secret_is;
  last = p.last;
  accounts = p.accounts;
  change = change;
  puts = p.puts;
  changes_are = just_one changes old change is none;
}

pub begun_sound : (rows base now : Rows) (secret : List ℕ) (changes : List Change) → IsEmpty rows → IsFirst secret changes → base ≡ rows → now ≡ rows_after base changes → IsSound now
begun_sound rows base now secret changes empty first base_is now_is =
    let whole : now ≡ rows_after rows (first.change ∷ []) = now_is ∙ ap (λ (r : Rows). rows_after r changes) base_is ∙ ap (λ (l : List Change). rows_after rows l) first.changes_are in
    first_sound now first.store first.accounts (λ k.
    ap (λ (r : Rows). r k) whole
    ∙ ap (λ (q : Key). if same_key q k then value_of first.change else rows k) first.puts.key_is
    ∙ ap (λ (o : Option Value). if same_key key.Store k then o else rows k) first.puts.value_is
    ∙ ap (λ (o : Option Value). if same_key key.Store k then Some (value.Store first.store) else o) (empty k))

-- rows with batches
abbrev pub rows_with : List (List Change) → Rows → Kept
rows_with batches rows = record { rows = rows; batches = batches }

module _ {S E : Type 0} (is_open : S → Kept → Type 0) (words now_words : ChaCha) (result : Result S E) where
  -- the rows are those of the batches
  pub same_opens : (batches : List (List Change)) (rows : Rows) → ((k : Key) → rows k ≡ rows_of_batches batches k) → IfOk result (Opens is_open (rows_with batches rows) words now_words)
      → IfOk result (Opens is_open (kept_of batches) words now_words)
  same_opens batches rows are opens = subst (λ (r : Rows). IfOk result (Opens is_open (rows_with batches r) words now_words)) (fun_ext are) opens

-- .. of the one or the other
pub either_opens : {S E : Type 0} (is_open : S → Kept → Type 0) (words now_words : ChaCha) (one other : Kept) (result : Result S E)
    → IfOk result (Opens is_open one words now_words) ⊎ IfOk result (Opens is_open other words now_words)
    → IfOk result (λ server. Opens is_open one words now_words server ⊎ Opens is_open other words now_words server)
either_opens is_open words now_words one other (Ok server) opens = opens
either_opens is_open words now_words one other (Err error) opens = tt

module _ {S : Type 0} (is_open : S → Kept → Type 0) where
  pub opens_begun : {E : Type 0} (kept : Kept) (words now_words : ChaCha) (secret : List ℕ) (result : Result S E) → IsEmpty kept.rows → (secret, now_words) ≡ drawn 32 words
      → IfOk result (IsBegun is_open kept secret) → IfOk result (Opens is_open kept words now_words)
  opens_begun kept words now_words secret (Ok server) empty draws (changes, first, stands) = inr (empty, secret, changes, draws, first, stands)
  opens_begun kept words now_words secret (Err error) empty draws begun = begun

  pub opens_checked : {E : Type 0} (kept : Kept) (words : ChaCha) (result : Result S E) → HasSome kept.rows → IfOk result (λ server. is_open server kept) → IfOk result (Opens is_open kept words words)
  opens_checked kept words (Ok server) some stands = inl (some, stands, refl)
  opens_checked kept words (Err error) some stands = stands

  pub loads : {E : Type 0} (file : List ℕ) (rows : Rows) (batches : List (List Change)) (words now_words : ChaCha) (result : Result S E) → IsStore ServerOwner file batches
      → ((k : Key) → rows k ≡ rows_of_batches batches k) → IfOk result (Opens is_open (record { rows = rows; batches = batches }) words now_words)
      → IfOk result (IsLoaded is_open file words now_words)
  loads file rows batches words now_words (Ok server) store are opens = (batches, store, subst (λ (r : Rows). Opens is_open (with_rows r) words now_words server) (fun_ext are) opens)
    where
      with_rows : Rows → Kept
      with_rows r = record { rows = r; batches = batches }
  loads file rows batches words now_words (Err error) store are opens = opens

-- a file stands for batches that leave these rows
abbrev pub StandsWith : List ℕ → Rows → Type 0
StandsWith file rows = (batches : List (List Change)) × IsStore ServerOwner file batches × ((k : Key) → rows k ≡ rows_of_batches batches k)

open_error : (told : Type 0) (file : List ℕ) (rows : Rows) (faults before now : ℕ) (error : ServerError) → before ≡ faults → (told → StandsWith file rows)
    → IsOpenError rows before now error → IsServerError told file faults now error
open_error told file rows faults before now (Foreign place) same found cause = absurd cause
open_error told file rows faults before now (Damaged place) same found cause = absurd cause
open_error told file rows faults before now (UnsoundRows kind) same found (some, unsound) = λ t.
    let (batches, store, are) = found t in
    let is : rows ≡ rows_of_batches batches = fun_ext are in
    (batches, store, subst HasSome is some, subst (λ (r : Rows). IsFirstUnsound r (Some kind)) is unsound)
open_error told file rows faults before now DiskFault same found cause = subst (λ (n : ℕ). IsOpenError rows n now DiskFault) same cause
open_error told file rows faults before now Memory same found cause = tt

pub open_errors : {S D : Type 0} (count : D → ℕ) (told : Type 0) (file : List ℕ) (rows : Rows) (faults before : ℕ) (result : Result S (D × ServerError)) → before ≡ faults → (told → StandsWith file rows)
    → IfErr result (λ refusal. IsOpenError rows before (count refusal.0) refusal.1) → IfErr result (λ refusal. IsServerError told file faults (count refusal.0) refusal.1)
open_errors count told file rows faults before (Ok server) same found cause = cause
open_errors count told file rows faults before (Err refusal) same found cause = open_error told file rows faults before (count refusal.0) refusal.1 same found cause

-- What a crash leaves at any moment of a load.
use Rattle.std.specs.Prelude.{◌≡◌, ◌≢◌, ◌⊎◌, ◌++◌, [], ◌∷◌, ℕ, List, Result, Ok, Err, IfErr, map}
use Rattle.std.proofs.Common.{inl, inr, ⊎_elim, sym, subst}
use Rattle.std.proofs.Math.Path.{fun_ext}
use Rattle.sn_disk.specs.Disk.{LeavesOnly}
use Rattle.sn_disk.specs.Moments.{joined, started, weaker}
use Rattle.sn_disk.specs.declared.disk.Disk.{Ghosts}
use Rattle.sn_journal.specs.Findings.{one_finding}
use Rattle.sn_journal.specs.Image.{SameBatches}
use Rattle.sn_journal.specs.Laws as finding
use Rattle.sn_journal.specs.Loading.{IsDamaged, IsForeign}
use Rattle.sn_journal.specs.declared.owner.Owner.{Owner}
use Rattle.sn_journal.specs.declared.owner.Owner.TheVariants.{Server as ServerOwner}
use Rattle.sn_rows.specs.Spelling.{spelled}
use Rattle.sn_rows.specs.Table.{Rows, rows_of_batches}
use Rattle.sn_rows.specs.declared.change.Change.{Change}
use Rattle.sn_rows.specs.declared.key.Key.{Key}
use Rattle.sn_table.specs.Batches.{IsAllOrNothing, IsStore}
use Rattle.sn_table.specs.Facts.{log_each}
use Rattle.sn_table.specs.Logs.{IsLoadError, StandsFor, log_disk, log_owner}
use Rattle.sn_table.specs.declared.error.TableError.{TableError}
use Rattle.sn_table.specs.declared.error.TableError.TheVariants as table
use Rattle.sn_table.specs.declared.log.Log.{Log}
use Rattle.sn_server.specs.Loads.{IsEmpty, IsFirst, IsOpenError, StandsOrBegins, StandsOrBeginsOneOf, Stays, StaysOrBegins, StaysRefused, given_disk, kept_of, of_table}
use Rattle.sn_server.specs.Stores.{Kept}
use Rattle.sn_server.specs.declared.error.ServerError.{ServerError}
use Rattle.sn_server.specs.declared.error.ServerError.TheVariants.{Foreign, Damaged, Rows as UnsoundRows, DiskFault, Memory}
use Rattle.sn_server.proofs.Opening.{rows_with}

module _ {D : Type 0} {g : Ghosts D} where
  -- a log that isn't called, and whose disk is given on
  pub log_still : (log : Log D g) (disk : D) (kept : Kept) (secret : List ℕ) → log_owner log ≡ ServerOwner → StandsFor log kept.batches → disk ≡ log_disk log
      → ((c : List ℕ) → g.left_since (log_disk log) (g.moment (log_disk log)) c → g.may_leave (log_disk log) c)
      → LeavesOnly g.moment g.left_since (log_disk log) disk (StandsOrBegins kept secret)
  log_still log disk kept secret owner stands same only_now =
      let here = started g.moment g.left_since (log_disk log) (StandsOrBegins kept secret)
      (λ c left. inl (subst (λ (o : Owner). IsStore o c kept.batches) owner (log_each log kept.batches stands c (only_now c left)))) in
      subst (λ (d : D). LeavesOnly g.moment g.left_since (log_disk log) d (StandsOrBegins kept secret)) (sym same) here

module _ {D : Type 0} (moment : D → ℕ) (left_since : D → ℕ → List ℕ → Type 0) (old new : D) where
  abbrev Leaves : (List ℕ → Type 0) → Type 0
  Leaves P = LeavesOnly moment left_since old new P

  -- a commit of the first changes
  pub begins : (kept : Kept) (secret : List ℕ) (changes : List Change) → IsEmpty kept.rows → IsFirst secret changes
      → Leaves (IsAllOrNothing ServerOwner kept.batches changes) → Leaves (StandsOrBegins kept secret)
  begins kept secret changes empty first run =
      weaker moment left_since old new (IsAllOrNothing ServerOwner kept.batches changes) (StandsOrBegins kept secret) run
      (λ c s. ⊎_elim (λ same. inl same) (λ begun. inr (empty, changes, first, begun)) s)

  -- the rows are those of the batches
  pub with_rows : (batches : List (List Change)) (rows : Rows) (secret : List ℕ) → ((k : Key) → rows k ≡ rows_of_batches batches k)
      → Leaves (StandsOrBegins (rows_with batches rows) secret) → Leaves (StandsOrBegins (kept_of batches) secret)
  with_rows batches rows secret are run = subst (λ (r : Rows). Leaves (StandsOrBegins (rows_with batches r) secret)) (fun_ext are) run

  module _ (told : Type 0) (before : List ℕ → Type 0) (file secret : List ℕ) where
    foreign_unlike : (place : ℕ) (c : List ℕ) → IsForeign ServerOwner file place → SameBatches ServerOwner file c → ⊥
    foreign_unlike place c is same = let one = one_finding ServerOwner file (finding.batches same.0) (finding.foreign place) same.1 is in cc

    damaged_unlike : (place : ℕ) (c : List ℕ) → IsDamaged ServerOwner file place → SameBatches ServerOwner file c → ⊥
    damaged_unlike place c is same = let one = one_finding ServerOwner file (finding.batches same.0) (finding.damaged place) same.1 is in cc

    -- a log that wasn't loaded
    pub unloaded : (from : TableError) (error : ServerError) (faults now : ℕ) → error ≡ of_table from → IsLoadError ServerOwner told file faults now from → told
        → Leaves (Stays before file) → Leaves (StaysRefused error before file secret)
    unloaded (table.Foreign place) error faults now is cause t run =
        subst (λ (e : ServerError). Leaves (StaysRefused e before file secret)) (sym is)
        (weaker moment left_since old new (Stays before file) before run
        (λ c s. ⊎_elim (λ was. was) (λ same. absurd (foreign_unlike place c (cause t) same)) s))
    unloaded (table.Damaged place) error faults now is cause t run =
        subst (λ (e : ServerError). Leaves (StaysRefused e before file secret)) (sym is)
        (weaker moment left_since old new (Stays before file) (StaysRefused (Damaged place) before file secret) run
        (λ c s. ⊎_elim (λ was. inl was) (λ same. ⊎_elim (λ d. absurd (damaged_unlike place c d same)) (λ d. inr (d, same)) (cause t)) s))
    unloaded table.DiskFault error faults now is cause t run =
        subst (λ (e : ServerError). Leaves (StaysRefused e before file secret)) (sym is)
        (weaker moment left_since old new (Stays before file) (StaysOrBegins before file secret) run (λ c s. inl s))
    unloaded table.Memory error faults now is cause t run = subst (λ (e : ServerError). Leaves (StaysRefused e before file secret)) (sym is) run

-- a run that stands for batches, behind one that stays
pub stays_or_begins : (before : List ℕ → Type 0) (file secret : List ℕ) (batches : List (List Change)) → IsStore ServerOwner file batches
    → (c : List ℕ) → StandsOrBegins (kept_of batches) secret c → StaysOrBegins before file secret c
stays_or_begins before file secret batches store c (inl same) = inl (inr (map spelled batches, store.image, same.image))
stays_or_begins before file secret batches store c (inr (empty, changes, first, begun)) = inr record { batches = batches; store = store; empty = empty; changes = changes; first = first; begun = begun }

module _ {D : Type 0} (moment : D → ℕ) (left_since : D → ℕ → List ℕ → Type 0) (old mid : D) where
  -- a log that was loaded, and then opened or begun
  pub opened : (new : D) (before : List ℕ → Type 0) (file secret : List ℕ) (batches : List (List Change)) → IsStore ServerOwner file batches
      → LeavesOnly moment left_since old mid (Stays before file) → LeavesOnly moment left_since mid new (StandsOrBegins (kept_of batches) secret)
      → LeavesOnly moment left_since old new (StaysOrBegins before file secret)
  opened new before file secret batches store first second =
      joined moment left_since old mid new (Stays before file) (StandsOrBegins (kept_of batches) secret) (StaysOrBegins before file secret) first second
      (λ c s. inl s) (stays_or_begins before file secret batches store)

  -- .. of one list of batches
  pub same_opened : (new : D) (secret : List ℕ) (batches : List (List Change))
      → LeavesOnly moment left_since old mid (λ c. IsStore ServerOwner c batches) → LeavesOnly moment left_since mid new (StandsOrBegins (kept_of batches) secret)
      → LeavesOnly moment left_since old new (StandsOrBegins (kept_of batches) secret)
  same_opened new secret batches first second =
      joined moment left_since old mid new (λ c. IsStore ServerOwner c batches) (StandsOrBegins (kept_of batches) secret) (StandsOrBegins (kept_of batches) secret) first second
      (λ c s. inl s) (λ c s. s)

  -- .. of the one list or the other
  pub either_opened : (new : D) (secret : List ℕ) (batches : List (List Change)) (changes : List Change)
      → LeavesOnly moment left_since old mid (IsAllOrNothing ServerOwner batches changes)
      → LeavesOnly moment left_since mid new (StandsOrBegins (kept_of batches) secret) ⊎ LeavesOnly moment left_since mid new (StandsOrBegins (kept_of (batches ++ changes ∷ [])) secret)
      → LeavesOnly moment left_since old new (StandsOrBeginsOneOf (kept_of batches) (kept_of (batches ++ changes ∷ [])) secret)
  either_opened new secret batches changes first second =
      let one = kept_of batches in
      let other = kept_of (batches ++ changes ∷ []) in
      let R = StandsOrBeginsOneOf one other secret in
      let at_first : (c : List ℕ) → IsAllOrNothing ServerOwner batches changes c → R c = λ c s. ⊎_elim (λ s. inl (inl s)) (λ s. inr (inl s)) s in
      ⊎_elim
      (λ run. joined moment left_since old mid new (IsAllOrNothing ServerOwner batches changes) (StandsOrBegins one secret) R first run at_first (λ c s. inl s))
      (λ run. joined moment left_since old mid new (IsAllOrNothing ServerOwner batches changes) (StandsOrBegins other secret) R first run at_first (λ c s. inr s))
      second

  -- a refusal of the rows, or of the first commit
  pub refused : {S : Type 0} (disk_of : S → D) (count : D → ℕ) (rows : Rows) (before : List ℕ → Type 0) (file secret : List ℕ) (faults : ℕ) (result : Result S (D × ServerError))
      → IfErr result (λ refusal. refusal.1 ≢ DiskFault → refusal.0 ≡ mid) → IfErr result (λ refusal. IsOpenError rows faults (count refusal.0) refusal.1)
      → LeavesOnly moment left_since old mid (Stays before file)
      → LeavesOnly moment left_since old (given_disk disk_of result) (StaysOrBegins before file secret)
      → IfErr result (λ refusal. LeavesOnly moment left_since old refusal.0 (StaysRefused refusal.1 before file secret))
  refused disk_of count rows before file secret faults (Ok server) still cause first all = tt
  refused disk_of count rows before file secret faults (Err (disk, Foreign place)) still cause first all = absurd cause
  refused disk_of count rows before file secret faults (Err (disk, Damaged place)) still cause first all = absurd cause
  refused disk_of count rows before file secret faults (Err (disk, UnsoundRows kind)) still cause first all =
      subst (λ (d : D). LeavesOnly moment left_since old d (Stays before file)) (sym (still (λ e. cc))) first
  refused disk_of count rows before file secret faults (Err (disk, DiskFault)) still cause first all = all
  refused disk_of count rows before file secret faults (Err (disk, Memory)) still cause first all =
      subst (λ (d : D). LeavesOnly moment left_since old d (Stays before file)) (sym (still (λ e. cc))) first

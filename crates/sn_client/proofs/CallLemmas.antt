-- How a call's last commit ends it, and what a crash leaves of a device.
use Rattle.std.specs.Prelude.{◌≡◌, ◌<◌, ℕ, List, [], ◌∷◌, length}
use Rattle.std.proofs.Common.{arith, inl, inr, refl, ap, subst, ⊎_elim}
use Rattle.rand_chacha.specs.ChaCha.{ChaCha}
use Rattle.sn_disk.specs.Disk.{LeavesOnly}
use Rattle.sn_disk.specs.Moments.{started, weaker}
use Rattle.sn_disk.specs.declared.disk.Disk.{Ghosts}
use Rattle.sn_journal.specs.declared.owner.Owner.{Owner}
use Rattle.sn_journal.specs.declared.owner.Owner.TheVariants.{Device as DeviceOwner}
use Rattle.sn_journal.specs.Image.{most_payload}
use Rattle.sn_rows.specs.Spelling.{spelled}
use Rattle.sn_rows.specs.declared.change.Change.{Change}
use Rattle.sn_table.specs.Batches.{IsAllOrNothing, IsStore}
use Rattle.sn_table.specs.Committing.{IsCause}
use Rattle.sn_table.specs.Facts.{open_each}
use Rattle.sn_table.specs.Kept.{Kept, with_batch}
use Rattle.sn_table.specs.Tables.{IsOpen as IsOpenTable, table_disk, table_owner}
use Rattle.sn_table.specs.declared.committed.CommitError.{CommitError}
use Rattle.sn_table.specs.declared.committed.CommitError.TheVariants as commit
use Rattle.sn_table.specs.declared.table.Table.{Table}
use Rattle.sn_client.specs.Calls.{Ends, StandsOrHas, of_commit}
use Rattle.sn_device.specs.Runs.{Act, EndsCommit, Given, Halt, IsBatch, StopsAt, answered, broken, commits, refused}
use Rattle.sn_device.specs.Steps.{What}
use Rattle.sn_client.specs.declared.called.Called.{Called}
use Rattle.sn_client.specs.declared.called.Called.TheVariants as called
use Rattle.sn_device.specs.declared.error.ClientError.TheVariants as refusal

-- what isn't above the most is a batch
pub fits_by : (changes : List Change) → (most_payload < length (spelled changes) → ⊥) → IsBatch changes
fits_by changes not = omega (arith, not)

-- a commit that is refused for its cause stops so
pub stops_refused : (what : What) (changes : List Change) (error : CommitError) → IsCause changes error → StopsAt what changes (refused (of_commit error))
stops_refused what changes (commit.TooLarge size) cause = inr (inl ((λ fits. absurd (omega (arith, fits, cause.0))), ap (λ (n : ℕ). refused (refusal.TooLarge n)) cause.1))
stops_refused what changes commit.Memory cause = inr (inr refl)

module _ {S D T : Type 0} (is_open : S → Kept → Type 0) (may_have : D → Kept → List Change → Type 0) (gives : T → Given) (kept : Kept) (what : What) (left : ChaCha)
    (changes : List Change) where
  -- what answering by a last commit leaves
  abbrev pub Answers : T → Called S D T → Type 0
  Answers given result = (acts : List Act) × (halt : Halt) × EndsCommit what changes (gives given) left acts halt × Ends is_open may_have gives kept acts halt left result

  pub answers_done : (given : T) (device : S) → IsBatch changes → is_open device (with_batch kept changes) → Answers given (called.Done device given)
  answers_done given device fits opens = (commits what changes ∷ [], answered (gives given) left, inl (fits, refl, refl), (refl, opens))

  pub answers_refused : (given : T) (device : S) (error : CommitError) → IsCause changes error → is_open device kept → Answers given (called.Refused device (of_commit error))
  answers_refused given device error cause opens = ([], refused (of_commit error), inr (refl, stops_refused what changes error cause), (refl, opens))

  pub answers_broken : (given : T) (disk : D) → IsBatch changes → may_have disk kept changes → Answers given (called.Broken disk)
  answers_broken given disk fits may = ([], broken what changes, inr (refl, inl (fits, refl)), (what, changes, refl, may))

module _ {D : Type 0} {g : Ghosts D} where
  -- a table whose disk isn't called
  pub rests : (table : Table D g) (batches : List (List Change)) (P : List Change → Type 0) → ((disk : D) (c : List ℕ) → g.left_since disk (g.moment disk) c → g.may_leave disk c)
      → table_owner table ≡ DeviceOwner → IsOpenTable table batches
      → LeavesOnly g.moment g.left_since (table_disk table) (table_disk table) (StandsOrHas batches P)
  rests table batches P only owner opens =
      started g.moment g.left_since (table_disk table) (StandsOrHas batches P)
      (λ c left. inl (subst (λ (o : Owner). IsStore o c batches) owner (open_each table batches opens c (only (table_disk table) c left))))

-- one batch more, of such changes
pub steps : {D : Type 0} (moment : D → ℕ) (left_since : D → ℕ → List ℕ → Type 0) (old new : D) (batches : List (List Change)) (P : List Change → Type 0) (changes : List Change) → P changes
    → LeavesOnly moment left_since old new (IsAllOrNothing DeviceOwner batches changes) → LeavesOnly moment left_since old new (StandsOrHas batches P)
steps moment left_since old new batches P changes p run =
    weaker moment left_since old new (IsAllOrNothing DeviceOwner batches changes) (StandsOrHas batches P) run
    (λ c left. ⊎_elim (λ stands. inl stands) (λ has. inr (changes, p, has)) left)

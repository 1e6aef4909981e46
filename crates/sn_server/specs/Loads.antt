-- What loading a server leaves, and why a disk isn't loaded.
use Rattle.std.specs.Prelude.{◌≡◌, ◌⊎◌, ℕ, List, [], ◌∷◌, ◌++◌, Some, None, Result, Ok, Err, ⊤}
use Rattle.rand_chacha.specs.ChaCha.{ChaCha}
use Rattle.sn_io.specs.Causes.{Rose}
use Rattle.sn_items.specs.Draws.{drawn}
use Rattle.sn_journal.specs.Image.{SameBatches}
use Rattle.sn_journal.specs.Loading.{IsForeign, IsDamaged}
use Rattle.sn_journal.specs.declared.owner.Owner.TheVariants.{Server as ServerOwner}
use Rattle.sn_rows.specs.Table.{Puts, Rows, rows_of_batches}
use Rattle.sn_rows.specs.declared.change.Change.{Change}
use Rattle.sn_rows.specs.declared.key.Key.{Key}
use Rattle.sn_rows.specs.declared.key.Key.TheVariants as key
use Rattle.sn_rows.specs.declared.server_rows.StoreRow.{StoreRow}
use Rattle.sn_rows.specs.declared.value.Value.{Value}
use Rattle.sn_rows.specs.declared.value.Value.TheVariants as value
use Rattle.sn_account.specs.Unsound.{IsFirstUnsound}
use Rattle.sn_table.specs.Batches.{IsStore}
use Rattle.sn_table.specs.Logs.{IsDamagedBatch}
use Rattle.sn_table.specs.declared.error.TableError.{TableError}
use Rattle.sn_table.specs.declared.error.TableError.TheVariants as table
use Rattle.sn_server.specs.Stores.{Kept, after}
use Rattle.sn_server.specs.declared.error.ServerError.{ServerError}
use Rattle.sn_server.specs.declared.error.ServerError.TheVariants.{Foreign, Damaged, Rows as UnsoundRows, DiskFault, Memory}

-- no key has a row
abbrev pub IsEmpty : Rows → Type 0
IsEmpty rows = (at : Key) → rows at ≡ None

-- some key has one
abbrev pub HasSome : Rows → Type 0
HasSome rows = (at : Key) × (v : Value) × (rows at ≡ Some v)

-- the first commit: the store's own row with this secret, no stamp given and no accounts
pub record IsFirst (secret : List ℕ) (changes : List Change) : Type 0 where
  pub store : StoreRow
  pub secret_is : store.secret ≡ secret
  pub last : store.last ≡ 0
  pub accounts : store.accounts ≡ 0
  pub change : Change
  pub puts : Puts change key.Store (value.Store store)
  pub changes_are : changes ≡ change ∷ []

-- these batches, with the rows that they leave
abbrev pub kept_of : List (List Change) → Kept
kept_of batches = record { rows = rows_of_batches batches; batches = batches }

module _ {S : Type 0} (is_open : S → Kept → Type 0) where
  -- A server that had these rows and batches. Where there was no row, a secret was drawn, and the first commit made.
  abbrev pub Opens : Kept → ChaCha → ChaCha → S → Type 0
  Opens kept words now_words server =
      (HasSome kept.rows × is_open server kept × (now_words ≡ words))
      ⊎ (IsEmpty kept.rows × (secret : List ℕ) × (changes : List Change) × ((secret, now_words) ≡ drawn 32 words) × IsFirst secret changes
      × is_open server (after kept changes))

  -- .. of a file that stands for them
  abbrev pub IsLoaded : List ℕ → ChaCha → ChaCha → S → Type 0
  IsLoaded file words now_words server = (batches : List (List Change)) × IsStore ServerOwner file batches × Opens (kept_of batches) words now_words server

-- These bytes stand for the batches that there were, or where these leave no row for them with the first commit.
abbrev pub StandsOrBegins : Kept → List ℕ → List ℕ → Type 0
StandsOrBegins kept secret c = IsStore ServerOwner c kept.batches
    ⊎ (IsEmpty kept.rows × (changes : List Change) × IsFirst secret changes × IsStore ServerOwner c (kept.batches ++ changes ∷ []))

-- .. the one or the other of two lists of batches
abbrev pub StandsOrBeginsOneOf : Kept → Kept → List ℕ → List ℕ → Type 0
StandsOrBeginsOneOf one other secret c = StandsOrBegins one secret c ⊎ StandsOrBegins other secret c

-- what a crash might have left before, or bytes of the same batches as the file's
abbrev pub Stays : (List ℕ → Type 0) → List ℕ → List ℕ → Type 0
Stays before file c = before c ⊎ SameBatches ServerOwner file c

-- The file stands for batches that leave no row, and these bytes for them with the whole first commit.
pub record BeginsStore (file secret c : List ℕ) : Type 0 where
  pub batches : List (List Change)
  pub store : IsStore ServerOwner file batches
  pub empty : IsEmpty (rows_of_batches batches)
  pub changes : List Change
  pub first : IsFirst secret changes
  pub begun : IsStore ServerOwner c (batches ++ changes ∷ [])

-- what a crash leaves at any moment of a load
abbrev pub StaysOrBegins : (List ℕ → Type 0) → List ℕ → List ℕ → List ℕ → Type 0
StaysOrBegins before file secret c = Stays before file c ⊎ BeginsStore file secret c

-- What it leaves where the load is refused so. The first commit is begun only where the disk fails in it. Of a file that is
-- foreign, or damaged at a batch that isn't whole, a crash leaves just what it might have left before.
abbrev pub StaysRefused : ServerError → (List ℕ → Type 0) → List ℕ → List ℕ → List ℕ → Type 0
StaysRefused (Foreign place) before file secret c = before c
StaysRefused (Damaged place) before file secret c = before c ⊎ (IsDamagedBatch ServerOwner file place × SameBatches ServerOwner file c)
StaysRefused (UnsoundRows kind) before file secret c = Stays before file c
StaysRefused DiskFault before file secret c = StaysOrBegins before file secret c
StaysRefused Memory before file secret c = Stays before file c

-- the secret that is drawn from the words
abbrev pub secret_of : ChaCha → List ℕ
secret_of words = (drawn 32 words).0

-- the disk that loading hands on
abbrev pub given_disk : {S D E : Type 0} → (S → D) → Result S (D × E) → D
given_disk disk_of (Ok server) = disk_of server
given_disk disk_of (Err refusal) = refusal.0

abbrev pub of_table : TableError → ServerError
of_table (table.Foreign place) = Foreign place
of_table (table.Damaged place) = Damaged place
of_table table.DiskFault = DiskFault
of_table table.Memory = Memory

-- why rows weren't opened, by the count of the disk's faults
abbrev pub IsOpenError : Rows → ℕ → ℕ → ServerError → Type 0
IsOpenError rows faults now (Foreign place) = ⊥
IsOpenError rows faults now (Damaged place) = ⊥
IsOpenError rows faults now (UnsoundRows kind) = HasSome rows × IsFirstUnsound rows (Some kind)
IsOpenError rows faults now DiskFault = Rose faults now
IsOpenError rows faults now Memory = ⊤

-- why a disk of this content wasn't loaded
abbrev pub IsServerError : Type 0 → List ℕ → ℕ → ℕ → ServerError → Type 0
IsServerError told file faults now (Foreign place) = told → IsForeign ServerOwner file place
IsServerError told file faults now (Damaged place) = told → IsDamaged ServerOwner file place ⊎ IsDamagedBatch ServerOwner file place
IsServerError told file faults now (UnsoundRows kind) = told → (batches : List (List Change)) × IsStore ServerOwner file batches
    × HasSome (rows_of_batches batches) × IsFirstUnsound (rows_of_batches batches) (Some kind)
IsServerError told file faults now DiskFault = Rose faults now
IsServerError told file faults now Memory = ⊤

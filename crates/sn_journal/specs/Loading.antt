-- How a file begins, and how loading fails.
use Rattle.std.specs.Prelude.{◌≡◌, ◌≢◌, ◌⊎◌, ◌≤◌, ◌<◌, ◌+◌, ℕ, List, length, take, drop, slice_index, ⊤}
use Rattle.sn_io.specs.Causes.{Rose}
use Rattle.sn_journal.specs.Image.{header_of, front, IsChain, IsStart, LacksFirstByte}
use Rattle.sn_journal.specs.Reading.{IsBrokenAt}
use Rattle.sn_journal.specs.declared.owner.Owner.{Owner}
use Rattle.sn_journal.specs.declared.beginning.Beginning.{Beginning}
use Rattle.sn_journal.specs.declared.beginning.Beginning.TheVariants.{Unfinished, Header, Foreign}
use Rattle.sn_journal.specs.declared.beginning.Start.{Start}
use Rattle.sn_journal.specs.declared.beginning.Start.TheVariants.{Fresh, NoHeader, NoFirstByte}
use Rattle.sn_journal.specs.declared.finding.Found.{Found}
use Rattle.sn_journal.specs.declared.finding.Found.TheVariants as found
use Rattle.sn_journal.specs.declared.error.JournalError.{JournalError}
use Rattle.sn_journal.specs.declared.error.JournalError.TheVariants.{Foreign as ForeignFile, Damaged, DiskFault, Memory}

-- the first place where they differ or one of them ends
pub record IsCommonFront (bytes other : List ℕ) (place : ℕ) : Type 0 where
  pub within : place ≤ length bytes
  pub within_other : place ≤ length other
  pub same : take place bytes ≡ take place other
  pub differs : (place ≡ length bytes) ⊎ ((place ≡ length other) ⊎ (slice_index bytes place ≢ slice_index other place))

-- no start and no header: this is the first place that differs from the header, or the length of a shorter file
pub record IsForeign (owner : Owner) (file : List ℕ) (place : ℕ) : Type 0 where
  pub no_start : ¬ (IsStart owner file)
  pub below : place < 16
  pub front : IsCommonFront file (header_of owner) place

-- behind the header and whole batches a gate at this place isn't there, or is open before no whole batch
pub record IsDamaged (owner : Owner) (file : List ℕ) (place : ℕ) : Type 0 where
  pub header : take 16 file ≡ header_of owner
  pub behind : ℕ
  pub place_is : place ≡ 16 + behind
  pub broken : IsBrokenAt (drop 16 file) behind

-- what an unfinished start lacks
abbrev pub IsStartAt : Owner → List ℕ → Start → Type 0
IsStartAt owner file Fresh = length file ≤ 1
IsStartAt owner file NoHeader = (1 < length file) × (length file ≤ 17) × (slice_index file 0 ≡ 0)
IsStartAt owner file NoFirstByte = LacksFirstByte owner file × (slice_index file 0 ≢ 0)

-- how many writes it lacks
abbrev pub writes_of : Start → ℕ
writes_of Fresh = 3
writes_of NoHeader = 2
writes_of NoFirstByte = 1

abbrev pub IsBeginning : Owner → List ℕ → Beginning → Type 0
IsBeginning owner file (Unfinished start) = IsStartAt owner file start
IsBeginning owner file Header = (16 ≤ length file) × (take 16 file ≡ header_of owner)
IsBeginning owner file (Foreign place) = IsForeign owner file place

-- the header, so many batches, and a closed gate at this place
pub record HasBatches (owner : Owner) (file : List ℕ) (count gate : ℕ) : Type 0 where
  pub payloads : List (List ℕ)
  pub chain : IsChain owner file payloads
  pub count_is : count ≡ length payloads
  pub gate_is : gate ≡ length (front owner payloads)

abbrev pub IsFound : Owner → List ℕ → Found → Type 0
IsFound owner file (found.Unfinished start) = IsStartAt owner file start
IsFound owner file (found.Batches count gate) = HasBatches owner file count gate
IsFound owner file (found.Foreign place) = IsForeign owner file place
IsFound owner file (found.Damaged place) = IsDamaged owner file place

-- why bytes stand for no batches
abbrev pub IsNoImage : Owner → List ℕ → JournalError → Type 0
IsNoImage owner file (ForeignFile place) = IsForeign owner file place
IsNoImage owner file (Damaged place) = IsDamaged owner file place
IsNoImage owner file DiskFault = ⊥
IsNoImage owner file Memory = ⊥

-- why loading a disk of this content failed, by the count of its faults
abbrev pub IsLoadError : Owner → Type 0 → List ℕ → ℕ → ℕ → JournalError → Type 0
IsLoadError owner told file before after (ForeignFile place) = told → IsForeign owner file place
IsLoadError owner told file before after (Damaged place) = told → IsDamaged owner file place
IsLoadError owner told file before after DiskFault = Rose before after
IsLoadError owner told file before after Memory = ⊤

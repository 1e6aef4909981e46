-- What the bytes of a journal stand for. This is the format, and no step of the code.
use Rattle.std.specs.Prelude.{◌≡◌, ◌≢◌, ◌⊎◌, ◌≤◌, ◌^◌, ℕ, List, [], ◌∷◌, ◌++◌, length, drop, slice_index, codes, All, ◌==◌, if◌then◌else◌}
use Rattle.std.specs.List.{flat_map}
use Rattle.std.specs.Int.{w32, to_be_bytes}
use Rattle.sn_journal.specs.declared.owner.Owner.{Owner}
use Rattle.sn_journal.specs.declared.owner.Owner.TheVariants.{Server, Device}

-- `S` or `D`
abbrev pub letter_of : Owner → ℕ
letter_of Server = 83
letter_of Device = 68

-- the 16 bytes of the header, the last of them the format's digit
unfoldable pub header_of : Owner → List ℕ
header_of owner = codes "SNSYNC-JOURNAL" ++ letter_of owner ∷ 49 ∷ []

-- the length of a payload in four bytes, the highest first, and the payload
unfoldable pub counted : List ℕ → List ℕ
counted payload = to_be_bytes w32 (length payload) ++ payload

-- a batch behind an open gate
abbrev pub batch : List ℕ → List ℕ
batch payload = 1 ∷ counted payload

-- the header and these batches
abbrev pub front : Owner → List (List ℕ) → List ℕ
front owner payloads = header_of owner ++ flat_map batch payloads

-- the first byte is a gate that isn't open
abbrev pub IsClosed : List ℕ → Type 0
IsClosed [] = ⊥
IsClosed (gate ∷ rest) = gate ≢ 1

-- a payload has 2^30 bytes at most
abbrev pub most_payload : ℕ
most_payload = 2 ^ 30

abbrev pub IsBounded : List ℕ → Type 0
IsBounded payload = length payload ≤ most_payload

-- the header, these batches and a closed gate; what stands behind means nothing
pub record IsChain (owner : Owner) (file : List ℕ) (payloads : List (List ℕ)) : Type 0 where
  pub rest : List ℕ
  pub split : file ≡ front owner payloads ++ rest
  pub closed : IsClosed rest
  pub bounded : All IsBounded payloads

-- only the first byte of the header and its closed gate is missing
pub record LacksFirstByte (owner : Owner) (file : List ℕ) : Type 0 where
  pub long : length file ≡ 17
  pub other : slice_index file 0 ≢ 83
  pub same : drop 1 file ≡ drop 1 (header_of owner) ++ 0 ∷ []

-- a start that was never finished: nothing yet, a first byte 0, or the rest of the header
abbrev pub IsStart : Owner → List ℕ → Type 0
IsStart owner file =
    (length file ≤ 1)
    ⊎ ((length file ≤ 17) × (slice_index file 0 ≡ 0))
    ⊎ LacksFirstByte owner file

-- how many of the three writes of a start are missing, by the length and the first byte
abbrev pub missing_writes : List ℕ → ℕ
missing_writes [] = 3
missing_writes (first ∷ []) = 3
missing_writes (first ∷ second ∷ rest) = if first == 0 then 2 else (if first == 83 then 0 else 1)

-- The file stands for these batches. A fresh or unfinished one stands for none.
abbrev pub IsImage : Owner → List ℕ → List (List ℕ) → Type 0
IsImage owner file payloads = IsChain owner file payloads ⊎ (IsStart owner file × (payloads ≡ []))

-- it stands for these batches, or for those with one more
abbrev pub IsBeforeOrAfter : Owner → List (List ℕ) → List ℕ → List ℕ → Type 0
IsBeforeOrAfter owner payloads payload file = IsImage owner file payloads ⊎ IsImage owner file (payloads ++ payload ∷ [])

-- both stand for the same batches
abbrev pub SameBatches : Owner → List ℕ → List ℕ → Type 0
SameBatches owner file other = (payloads : List (List ℕ)) × IsImage owner file payloads × IsImage owner other payloads

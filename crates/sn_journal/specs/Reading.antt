-- What stands behind a header.
use Rattle.std.specs.Prelude.{◌≡◌, ◌⊎◌, ◌<◌, ◌≤◌, ◌+◌, ℕ, List, [], ◌++◌, length, take, drop, slice_index, All}
use Rattle.std.specs.List.{flat_map}
use Rattle.std.specs.Int.{w32, from_be_bytes}
use Rattle.sn_journal.specs.Image.{batch, IsClosed, IsBounded, most_payload}

-- no gate stands here, or an open one whose length or payload passes the end, or whose length is above 2^30
abbrev pub IsBroken : List ℕ → Type 0
IsBroken rest =
    (rest ≡ [])
    ⊎ ((slice_index rest 0 ≡ 1) × ((length rest < 5) ⊎ (most_payload < from_be_bytes w32 (take 4 (drop 1 rest))) ⊎ (length rest < 5 + from_be_bytes w32 (take 4 (drop 1 rest)))))

-- The payloads of the batches that these bytes begin with: behind the last of them stands a closed gate, or no whole batch.
pub record AreIn (bytes : List ℕ) (payloads : List (List ℕ)) : Type 0 where
  pub rest : List ℕ
  pub split : bytes ≡ flat_map batch payloads ++ rest
  pub over : IsClosed rest ⊎ IsBroken rest
  pub bounded : All IsBounded payloads

-- the batches that these bytes begin with, up to a closed gate
pub record IsBatches (bytes : List ℕ) (payloads : List (List ℕ)) : Type 0 where
  pub rest : List ℕ
  pub split : bytes ≡ flat_map batch payloads ++ rest
  pub closed : IsClosed rest
  pub bounded : All IsBounded payloads

-- they begin with a batch whose payload has this size
pub record IsWhole (bytes : List ℕ) (size : ℕ) : Type 0 where
  pub within : 5 + size ≤ length bytes
  pub small : size ≤ most_payload
  pub split : bytes ≡ batch (take size (drop 5 bytes)) ++ drop (5 + size) bytes

-- whole batches up to a place where such a gate stands
pub record IsBrokenAt (bytes : List ℕ) (place : ℕ) : Type 0 where
  pub payloads : List (List ℕ)
  pub rest : List ℕ
  pub split : bytes ≡ flat_map batch payloads ++ rest
  pub place_is : place ≡ length (flat_map batch payloads)
  pub broken : IsBroken rest
  pub bounded : All IsBounded payloads

-- so many batches stand before what is left
pub record ArePassed (bytes rest : List ℕ) (count : ℕ) : Type 0 where
  pub payloads : List (List ℕ)
  pub split : bytes ≡ flat_map batch payloads ++ rest
  pub bounded : All IsBounded payloads
  pub count_is : count ≡ length payloads

-- What a device draws: fresh uuids and nonces.
use Rattle.std.specs.Prelude.{◌≡◌, ℕ, ◌<◌, List, [], ◌∷◌, ◌++◌, length, All}
use Rattle.hex.specs.Hex.{encode_lower}
use Rattle.rand_chacha.specs.ChaCha.{ChaCha}
use Rattle.sn_items.specs.Draws.{as_version_4, drawn}
use Rattle.sn_rows.specs.Table.{Rows}
use Rattle.sn_device.specs.States.{Bytes, IsFree, IsUsed}

-- ---- uuids

-- these are the next uuids of the words
abbrev pub DrawsUuids : ChaCha → List Bytes → ChaCha → Type 0
DrawsUuids words [] left = left ≡ words
DrawsUuids words (uuid ∷ later) left =
    (bytes : Bytes) × (rest : ChaCha) × ((bytes, rest) ≡ drawn 16 words) × (uuid ≡ as_version_4 bytes) × DrawsUuids rest later left

-- so many are drawn at most for one fresh uuid
abbrev pub most_draws : ℕ
most_draws = 16

-- the first of them that no item has
pub record DrawsFresh (rows : Rows) (words : ChaCha) (uuid : Bytes) (left : ChaCha) : Type 0 where
  pub before : List Bytes
  pub few : length before < most_draws
  pub draws : DrawsUuids words (before ++ uuid ∷ []) left
  pub used : All (IsUsed rows) before
  pub fresh : IsFree rows uuid

-- items have all of them, and this is the last
pub record DrawsNoFresh (rows : Rows) (words : ChaCha) (last : Bytes) : Type 0 where
  pub before : List Bytes
  pub left : ChaCha
  pub all : length (before ++ last ∷ []) ≡ most_draws
  pub draws : DrawsUuids words (before ++ last ∷ []) left
  pub used : All (IsUsed rows) (before ++ last ∷ [])

-- ---- nonces

-- the nonce of a new set: 32 drawn bytes in lower-case hex
pub record DrawsNonce (words : ChaCha) (nonce : Bytes) (left : ChaCha) : Type 0 where
  pub bytes : Bytes
  pub is_drawn : (bytes, left) ≡ drawn 32 words
  pub spelled : nonce ≡ encode_lower bytes

-- What sealing writes.
use Rattle.std.specs.Prelude.{◌≡◌, ℕ, List, [], ◌∷◌}
use Rattle.hex.specs.Hex.{encode_lower}
use Rattle.sn_cbc.specs.Cbc.{IsCbc}
use Rattle.sn_hmac.specs.Hmac.{hmac_sha256}
use Rattle.sn_items.specs.Opens.{covered_text}
use Rattle.sn_string.specs.Base64.{base64_text}
use Rattle.sn_string.specs.Grammar.{joined, version}
use Rattle.sn_string.specs.Parameters.{IsParamsPart, params_text}
use Rattle.sn_string.specs.Uuids.{uuid_text}
use Rattle.sn_string.specs.declared.params.Params.{Params}

-- the text is the 003 string of the plain text under this initialization vector: the version, the hash of what it
-- covers, the uuid, the vector, the ciphertext of CBC, and the parameters
pub record IsSealed (plain uuid iv encryption_key authentication_key : List ℕ) (params : Params) (text : List ℕ) : Type 0 where
  pub bytes : List ℕ
  pub cbc : IsCbc encryption_key iv plain bytes
  pub spelled : text ≡ joined (version
      ∷ encode_lower (hmac_sha256 authentication_key (covered_text (uuid_text uuid) (encode_lower iv) (base64_text bytes)))
      ∷ uuid_text uuid ∷ encode_lower iv ∷ base64_text bytes ∷ params_text params ∷ [])

-- the params part that is written for the parameters, which stands for them
pub record IsWrittenPart (part : List ℕ) (params : Params) : Type 0 where
  pub written : part ≡ params_text params
  pub reads : IsParamsPart part params

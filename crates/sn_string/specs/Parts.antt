-- Parts of a text, as the code holds them.
use Rattle.std.specs.Prelude.{◌≡◌, ℕ, List, [], ◌∷◌}
use Rattle.sn_string.specs.Grammar.{Reading, IsHash, IsUuid, IsIv, IsCiphertext, parts_of, version}
use Rattle.sn_string.specs.Refusals.{IsLeftmost}
use Rattle.sn_string.specs.declared.reader.Parts.{Parts}
use Rattle.sn_string.specs.declared.reader.Six.{Six}
use Rattle.sn_string.specs.declared.reader.StringError.{StringError}

-- what the parts say
abbrev pub reading_of : Parts → Reading
reading_of p = record {
  hash = p.hash.now;
  uuid = p.uuid.now;
  iv = p.iv.now;
  ciphertext = p.ciphertext.now;
  params_text = p.params_text.now;
  params = p.params;
}

-- a text has these six parts
abbrev pub IsSix : List ℕ → Six → Type 0
IsSix text six = parts_of text ≡ six.version.now ∷ six.hash.now ∷ six.uuid.now ∷ six.iv.now
    ∷ six.ciphertext.now ∷ six.params_text.now ∷ []

-- the parts before the last are in their forms
pub record HasForms (six : Six) : Type 0 where
  pub version : six.version.now ≡ version
  pub hash : IsHash six.hash.now
  pub uuid : IsUuid six.uuid.now
  pub iv : IsIv six.iv.now
  pub ciphertext : IsCiphertext six.ciphertext.now

abbrev pub IsLeftmostOf : Six → StringError → Type 0
IsLeftmostOf six = IsLeftmost six.version.now six.hash.now six.uuid.now six.iv.now six.ciphertext.now six.params_text.now

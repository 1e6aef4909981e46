-- The lines of `show`.
use Rattle.std.specs.Prelude.{◌≡◌, ℕ, List, ◌++◌, codes, length}
use Rattle.std.specs.Fmt.{decimal}
use Rattle.serde_json.specs.Data.{string}
use Rattle.serde_json.specs.Written.{compact_text}
use Rattle.sn_keys.specs.Keys.{salt_text}
use Rattle.sn_string.specs.Base64.{IsBase64}
use Rattle.sn_string.specs.Grammar.{Reading, Is003}
use Rattle.sn_string.specs.declared.params.Params.{Params}

-- a text as a JSON string (RFC 8259)
unfoldable pub json_text : List ℕ → List ℕ
json_text text = compact_text (string text)

-- the text of the salt of parameters, as such
unfoldable pub salt_json : Params → List ℕ
salt_json p = json_text (salt_text p)

-- the lines for the parts that a string says, its ciphertext standing for so many bytes
abbrev pub parts_lines : Reading → ℕ → List ℕ
parts_lines r count =
    codes "version 003\nhash " ++ (r.hash ++ (codes "\nuuid " ++ (r.uuid ++ (codes "\niv " ++ (r.iv
    ++ (codes "\nciphertext " ++ (decimal count ++ codes "\n")))))))

-- those for its parameters
abbrev pub params_lines : Params → List ℕ
params_lines p =
    codes "identifier " ++ (json_text p.identifier ++ (codes "\npw_cost " ++ (decimal p.pw_cost
    ++ (codes "\npw_nonce " ++ (json_text p.pw_nonce ++ (codes "\nsalt-text " ++ (salt_json p ++ codes "\n")))))))

abbrev pub shown_lines : Reading → ℕ → List ℕ
shown_lines r count = parts_lines r count ++ params_lines r.params

-- the lines show the text, which is a 003 string
pub record IsShown (text lines : List ℕ) : Type 0 where
  pub reading : Reading
  pub reads : Is003 text reading
  pub bytes : List ℕ
  pub ciphertext : IsBase64 reading.ciphertext bytes
  pub spelled : lines ≡ shown_lines reading (length bytes)

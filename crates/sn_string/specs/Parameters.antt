-- The params part: the base64 of a JSON text of auth parameters.
use Rattle.std.specs.Prelude.{◌≡◌, ℕ, ◌≤◌, ◌++◌, ◌&&◌, ◌==◌, Bool, not, nat_le, List, length, codes, decimal, Some}
use Rattle.std.specs.Str.{IsUtf8}
use Rattle.serde_json.specs.Data.{Data, object, string, number, unsigned, member, no_members}
use Rattle.serde_json.specs.Find.{get}
use Rattle.serde_json.specs.Read.{read}
use Rattle.serde_json.specs.Written.{compact_text}
use Rattle.sn_string.specs.Base64.{IsBase64, base64_text}
use Rattle.sn_string.specs.declared.params.Params.{Params}

-- what is written for parameters: their three values and the version, by name in order
abbrev pub params_data : Params → Data
params_data p = object (member (codes "identifier") (string p.identifier)
    (member (codes "pw_cost") (number (unsigned p.pw_cost))
    (member (codes "pw_nonce") (string p.pw_nonce)
    (member (codes "version") (string (codes "003")) no_members))))

-- the compact JSON (RFC 8259) of that
unfoldable pub params_json : Params → List ℕ
params_json p = compact_text (params_data p)

-- the byte stands in a JSON text as it is: it is no control character, quotation mark or backslash
abbrev pub is_plain : ℕ → Bool
is_plain byte = nat_le 32 byte && (not (byte == 34) && not (byte == 92))

-- the JSON of parameters whose identifier and nonce stand in it as they are
unfoldable pub plain_json : Params → List ℕ
plain_json p =
    codes "{\"identifier\":\"" ++ (p.identifier ++ (codes "\",\"pw_cost\":" ++ (decimal p.pw_cost ++ (codes ",\"pw_nonce\":\"" ++ (p.pw_nonce ++ codes "\",\"version\":\"003\"}")))))

-- the params part that is written
unfoldable pub params_text : Params → List ℕ
params_text p = base64_text (params_json p)

-- the value is an object with these parameters, perhaps among other members; a number with a
-- fraction or an exponent is no cost
pub record HasParams (value : Data) (p : Params) : Type 0 where
  pub identifier : get (codes "identifier") value ≡ Some (string p.identifier)
  pub pw_cost : get (codes "pw_cost") value ≡ Some (number (unsigned p.pw_cost))
  pub pw_nonce : get (codes "pw_nonce") value ≡ Some (string p.pw_nonce)
  pub version : get (codes "version") value ≡ Some (string (codes "003"))

-- the UTF-8 text is the JSON of a value with these parameters
pub record IsParamsJson (json : List ℕ) (p : Params) : Type 0 where
  pub utf8 : IsUtf8 json
  pub value : Data
  pub reads : read json ≡ Some value
  pub members : HasParams value p

-- the part stands for these parameters: at most 8,192 bytes of base64 of their JSON
pub record IsParamsPart (part : List ℕ) (p : Params) : Type 0 where
  pub short : length part ≤ 8192
  pub json : List ℕ
  pub encoded : IsBase64 part json
  pub says : IsParamsJson json p

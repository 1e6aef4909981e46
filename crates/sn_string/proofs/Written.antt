-- What the writer joins is a 003 string.
use Rattle.std.proofs.Common.{arith, ◌≡◌, ◌∙◌, ap, ℕ, List, [], ◌∷◌, length, ◌≤◌}
use Rattle.sn_string.specs.Grammar.{Is003, IsHash, IsUuid, IsIv, IsCiphertext, joined, parts_of, version, written}
use Rattle.sn_string.specs.Base64.{IsBase64, base64_text}
use Rattle.sn_string.specs.Parameters.{IsParamsJson, IsParamsPart, params_json, params_text}
use Rattle.sn_string.specs.declared.params.Params.{Params}
use Rattle.sn_string.proofs.Base64Facts.{length-base64_text}
use Rattle.sn_string.proofs.ParamsFacts.{length-params_json}
use Rattle.sn_string.proofs.Colons.{HasNoColon, HasNoColon-version, HasNoColon-hex, HasNoColon-uuid, HasNoColon-base64, HasNoColon-base64_text, parts_of-joined_six}

pub params_text-base64 : (p : Params) (part json : List ℕ) → IsBase64 part json → json ≡ params_json p → part ≡ params_text p
unfolding params_text
params_text-base64 p part json encoded same = encoded.spelled ∙ ap base64_text same

pub IsParamsPart-base64 : (p : Params) (part json : List ℕ) → IsBase64 part json → json ≡ params_json p → IsParamsJson json p → IsParamsPart part p
IsParamsPart-base64 p part json encoded same says =
    let few : length json ≤ 3400 = rw same (length-params_json p) in
    let long : length part ≡ length (base64_text json) = ap length encoded.spelled in
    record { short = omega (arith, long, length-base64_text json, few); json = json; encoded = encoded; says = says }

HasNoColon-params_text : (p : Params) → HasNoColon (params_text p)
unfolding params_text
HasNoColon-params_text p = HasNoColon-base64_text (params_json p)

pub Is003-joined : (text hash uuid iv ciphertext : List ℕ) (p : Params)
    → text ≡ joined (version ∷ hash ∷ uuid ∷ iv ∷ ciphertext ∷ params_text p ∷ [])
    → IsHash hash → IsUuid uuid → IsIv iv → IsCiphertext ciphertext → IsParamsPart (params_text p) p
    → Is003 text (written hash uuid iv ciphertext p)
Is003-joined text hash uuid iv ciphertext p same h u i c part = record {
  parts = ap parts_of same ∙ parts_of-joined_six version hash uuid iv ciphertext (params_text p) HasNoColon-version
      (HasNoColon-hex 32 hash h.0 h.1) (HasNoColon-uuid uuid u.0 u.1) (HasNoColon-hex 16 iv i.0 i.1)
      (HasNoColon-base64 ciphertext c.bytes c.encoded) (HasNoColon-params_text p);
  hash = h;
  uuid = u;
  iv = i;
  ciphertext = c;
  params = part;
}

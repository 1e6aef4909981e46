-- Parameters whose identifier and nonce stand in JSON as they are are written as plain JSON, which reads back.
use Rattle.std.proofs.Common.{arith, ◌≡◌, ◌∙◌, sym, ap, ap₂, refl, ℕ, ◌==◌, ◌^◌, ◌<◌, ◌≤◌, ◌&&◌, true, not, List, [], ◌∷◌, ◌++◌, Some, option_and_then, codes, decimal, append_assoc, append-nil, leb-true}
use Rattle.std.specs.List.{list_all}
use Rattle.std.specs.Prelude.{nat_le}
use Rattle.std.specs.Str.{IsUtf8}
use Rattle.std.proofs.lemmas.Bool.{and_parts, eqb-false, not-true}
use Rattle.json.specs.Json.{Json, value, if_last}
use Rattle.json.specs.Lex.{tokens}
use Rattle.json.specs.Print.{escape, escape_byte}
use Rattle.json.specs.Tree.{json_tokens, HasNumbers, depth}
use Rattle.json.proofs.Printed.Decimals.{IsNumber-decimal}
use Rattle.json.proofs.Printed.Strings.{escape_byte_plain}
use Rattle.json.proofs.Printed.Tokens.{tokens-print}
use Rattle.json.proofs.Printed.Trees.{ArePrintable-json_tokens, value-json_tokens}
use Rattle.serde_json.specs.Data.{Data, unsigned}
use Rattle.serde_json.specs.Read.{read, number_of, of_json, max_depth}
use Rattle.serde_json.specs.Written.{outline}
use Rattle.serde_json.proofs.Numbers.{number_of-decimal}
use Rattle.serde_json.proofs.Texts.{print-outline}
use Rattle.sn_string.specs.Parameters.{IsParamsJson, is_plain, params_data, params_json, plain_json}
use Rattle.sn_string.specs.declared.params.Params.{Params}
use Rattle.sn_string.proofs.ParamsFacts.{IsParamsJson-written}

escape-plain : (text : List ℕ) → list_all is_plain text ≡ true → escape text ≡ text
escape-plain [] all = refl
escape-plain (byte ∷ text) all =
    let both = and_parts (is_plain byte) (list_all is_plain text) all in
    let one = and_parts (nat_le 32 byte) (not (byte == 34) && not (byte == 92)) both.0 in
    let marks = and_parts (not (byte == 34)) (not (byte == 92)) one.1 in
    ap₂ (λ first rest. first ++ rest)
    (escape_byte_plain byte (eqb-false byte 34 (not-true (byte == 34) marks.0)) (eqb-false byte 92 (not-true (byte == 92) marks.1)) (leb-true 32 byte one.0))
    (escape-plain text both.1)

-- what is written, with its escapes
params_json-escaped : (p : Params) → params_json p
    ≡ codes "{\"identifier\":\"" ++ (escape p.identifier ++ (codes "\",\"pw_cost\":" ++ (decimal p.pw_cost ++ (codes ",\"pw_nonce\":\"" ++ (escape p.pw_nonce ++ codes "\",\"version\":\"003\"}")))))
unfolding params_json escape_byte
params_json-escaped p =
    ap (λ s. codes "{\"identifier\":\"" ++ s)
    (append_assoc (escape p.identifier) (34 ∷ []) _
    ∙ ap (λ s. escape p.identifier ++ (codes "\",\"pw_cost\":" ++ (decimal p.pw_cost ++ (codes ",\"pw_nonce\":\"" ++ s))))
    (append_assoc (escape p.pw_nonce) (34 ∷ []) _))

params_json-plain : (p : Params) → list_all is_plain p.identifier ≡ true → list_all is_plain p.pw_nonce ≡ true → params_json p ≡ plain_json p
unfolding plain_json
params_json-plain p identifier nonce =
    params_json-escaped p
    ∙ ap₂ (λ i n. codes "{\"identifier\":\"" ++ (i ++ (codes "\",\"pw_cost\":" ++ (decimal p.pw_cost ++ (codes ",\"pw_nonce\":\"" ++ (n ++ codes "\",\"version\":\"003\"}"))))))
    (escape-plain p.identifier identifier) (escape-plain p.pw_nonce nonce)

-- what is written is read back
read-params_json : (p : Params) → read (params_json p) ≡ Some (params_data p)
unfolding params_json
read-params_json p =
    let d : Data = params_data p in
    let j : Json = outline d in
    let few : p.pw_cost < 2 ^ 64 = omega arith in
    let number : number_of (decimal p.pw_cost) ≡ Some (unsigned p.pw_cost) = number_of-decimal p.pw_cost few in
    let reads : of_json j ≡ Some d = rw number in
    let numbers : HasNumbers j = (tt, (IsNumber-decimal p.pw_cost few, (tt, (tt, tt)))) in
    let shallow : depth j ≤ max_depth = omega arith in
    let written : tokens (params_json p) ≡ json_tokens j =
    ap tokens (sym (print-outline d)) ∙ tokens-print (json_tokens j) (ArePrintable-json_tokens j numbers) in
    ap (λ found. option_and_then of_json (option_and_then (λ q. if_last q.0 q.1) found))
    (ap (value max_depth) (written ∙ sym (append-nil (json_tokens j))) ∙ value-json_tokens j max_depth [] shallow)
    ∙ reads

pub IsParamsJson-plain : (p : Params) (text : List ℕ) → IsUtf8 text → text ≡ plain_json p
    → list_all is_plain p.identifier ≡ true → list_all is_plain p.pw_nonce ≡ true → IsParamsJson text p
IsParamsJson-plain p text utf8 same identifier nonce =
    IsParamsJson-written (params_data p) p text refl utf8
    (λ shallow. ap read (same ∙ sym (params_json-plain p identifier nonce)) ∙ read-params_json p)

-- plain JSON is what is written where nothing is escaped
pub written_plainly : (p : Params) (text : List ℕ) → text ≡ plain_json p → list_all is_plain p.identifier ≡ true → list_all is_plain p.pw_nonce ≡ true
    → text ≡ params_json p
written_plainly p text same identifier nonce = same ∙ sym (params_json-plain p identifier nonce)

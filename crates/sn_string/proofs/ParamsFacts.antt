-- The writer's JSON of parameters stands for them, and is short.
use Rattle.std.proofs.Common.{rules, arith, ◌≡◌, ◌∙◌, ap, ℕ, ◌+◌, ◌*◌, ◌≤◌, true, false, Bool, cond, List, [], ◌∷◌, ◌++◌, length, Some, refl, codes, decimal}
use Rattle.std.specs.Str.{IsUtf8}
use Rattle.std.proofs.lemmas.Fmt.{length-decimal-le}
use Rattle.std.proofs.lemmas.List.{length-append}
use Rattle.json.specs.Print.{escape, escape_byte, quoted}
use Rattle.serde_json.specs.Data.{Data, Members, string, number, unsigned, member, no_members, depth}
use Rattle.serde_json.specs.Read.{read, max_depth}
use Rattle.serde_json.specs.Written.{compact_text, members_text, comma_if, has_float}
use Rattle.sn_string.specs.Parameters.{HasParams, IsParamsJson, params_data, params_json}
use Rattle.sn_string.specs.declared.params.Params.{Params}

pub HasParams-data : (p : Params) → HasParams (params_data p) p
HasParams-data p = record { identifier = refl; pw_cost = refl; pw_nonce = refl; version = refl }

length-cond : (b : Bool) (n : ℕ) (xs ys : List ℕ) → length xs ≤ n → length ys ≤ n → length (cond b xs ys) ≤ n
length-cond true n xs ys h k = h
length-cond false n xs ys h k = k

-- what the printer wrote for the data of parameters
pub params_json-written : (d : Data) (p : Params) (json : List ℕ) → d ≡ params_data p
    → (has_float d ≡ false → json ≡ compact_text d) → json ≡ params_json p
unfolding params_json
params_json-written d p json same text =
    text (ap has_float same) ∙ ap compact_text same

-- and what it reads as
pub IsParamsJson-written : (d : Data) (p : Params) (json : List ℕ) → d ≡ params_data p → IsUtf8 json
    → (depth d ≤ max_depth → read json ≡ Some d) → IsParamsJson json p
IsParamsJson-written d p json same utf8 reads =
    let shallow : depth d ≤ max_depth = rw same (omega arith) in
    record { utf8 = utf8; value = params_data p; reads = reads shallow ∙ ap Some same; members = HasParams-data p }

-- a byte takes at most six
length-escape_byte : (x : ℕ) → length (escape_byte x) ≤ 6
unfolding escape_byte
length-escape_byte x = search (rules, length-cond)

length-escape : (s : List ℕ) → length (escape s) ≤ 6 * length s
length-escape [] = omega arith
length-escape (x ∷ s) =
    let one = length-escape_byte x in
    let rest = length-escape s in
    omega (arith, length-append (escape_byte x) (escape s))

length-quoted : (s : List ℕ) → length (quoted s) ≤ 6 * length s + 2
length-quoted s =
    let text = length-escape s in
    omega (arith, length-append (escape s) (34 ∷ []))

length-comma : (later : Bool) → length (comma_if later) ≤ 1
length-comma true = omega arith
length-comma false = omega arith

-- a member: a comma, its name, a colon and its value
length-member : (later : Bool) (k : List ℕ) (d : Data) (ms : Members)
    → length (members_text later (member k d ms)) ≤ 6 * length k + 4 + length (compact_text d) + length (members_text true ms)
length-member later k d ms =
    let comma = length-comma later in
    let name = length-quoted k in
    omega (
      arith,
      length-append (comma_if later) (quoted k ++ 58 ∷ (compact_text d ++ members_text true ms)),
      length-append (quoted k) (58 ∷ (compact_text d ++ members_text true ms)),
      length-append (compact_text d) (members_text true ms),
    )

pub length-params_json : (p : Params) → length (params_json p) ≤ 3400
unfolding params_json
length-params_json p =
    let last : Members = member (codes "version") (string (codes "003")) no_members in
    let third : Members = member (codes "pw_nonce") (string p.pw_nonce) last in
    let second : Members = member (codes "pw_cost") (number (unsigned p.pw_cost)) third in
    let a = length-member false (codes "identifier") (string p.identifier) second in
    let b = length-member true (codes "pw_cost") (number (unsigned p.pw_cost)) third in
    let c = length-member true (codes "pw_nonce") (string p.pw_nonce) last in
    let d = length-member true (codes "version") (string (codes "003")) no_members in
    let identifier = length-quoted p.identifier in
    let cost : length (decimal p.pw_cost) ≤ 10 = length-decimal-le 10 p.pw_cost (omega arith) (omega arith) (omega arith) in
    let nonce = length-quoted p.pw_nonce in
    let version = length-quoted (codes "003") in
    omega arith

use Rattle.std.proofs.Common.{rules, ◌≡◌, refl, true, string_bytes}
use Rattle.std.specs.List.{list_all}
use Rattle.std.proofs.lemmas.Result.{IfOk-weaker}
use Rattle.std.proofs.lemmas.Str.{IsUtf8-string_bytes}
use Rattle.sn_string.specs.Parameters.{is_plain}
use Rattle.sn_string.proofs.PlainFacts.{IsParamsJson-plain, written_plainly}
use Rattle.sn_string.proofs.params_part.params_json.Goals as goal

pub returns-then-is_plain-2-clause-text : goal.returns-then-is_plain-2-clause-text
returns-then-is_plain-2-clause-text c =
    let identifier : list_all is_plain c.args.params.now.identifier ≡ true = search rules in
    let nonce : list_all is_plain c.args.params.now.pw_nonce ≡ true = search rules in
    IfOk-weaker c.plain_text.result _ _
    (λ s same. written_plainly c.args.params.now (string_bytes s) (same c.args.params.now c.as_str-identifier.ensures refl c.as_str-pw_nonce.ensures) identifier nonce)
    c.plain_text.ensures

pub returns-then-is_plain-2-clause-reads : goal.returns-then-is_plain-2-clause-reads
returns-then-is_plain-2-clause-reads c =
    let identifier : list_all is_plain c.args.params.now.identifier ≡ true = search rules in
    let nonce : list_all is_plain c.args.params.now.pw_nonce ≡ true = search rules in
    IfOk-weaker c.plain_text.result _ _
    (λ s same. IsParamsJson-plain c.args.params.now (string_bytes s) (IsUtf8-string_bytes s) (same c.args.params.now c.as_str-identifier.ensures refl c.as_str-pw_nonce.ensures) identifier nonce)
    c.plain_text.ensures

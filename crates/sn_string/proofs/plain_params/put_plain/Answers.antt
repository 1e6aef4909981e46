use Rattle.std.proofs.Common.{rules, ◌≡◌, refl, sym, subst, true, codes}
use Rattle.std.specs.List.{list_all}
use Rattle.std.specs.Str.{IsUtf8}
use Rattle.json.proofs.Printed.Utf8.{IsUtf8-are_ascii}
use Rattle.sn_string.specs.Parameters.{is_plain}
use Rattle.sn_string.proofs.PlainFacts.{IsParamsJson-plain, written_plainly}
use Rattle.sn_string.proofs.PlainPieces.{plain_json-written, pushed_seven, utf8_seven}
use Rattle.sn_string.proofs.plain_params.put_plain.Goals as goal

pub returns-clause-json : goal.returns-clause-json
returns-clause-json c =
    let identifier : list_all is_plain c.args.params.now.identifier ≡ true = search rules in
    let nonce : list_all is_plain c.args.params.now.pw_nonce ≡ true = search rules in
    let whole =
    pushed_seven _ _ _ _ _ _ _ _ _ _ _ _ _ _ _ refl c.in_ok-place.ensures.after c.in_ok-place-2.ensures.after c.in_ok-place-3.ensures.after
    c.in_ok-place-4.ensures.after c.in_ok-place-5.ensures.after c.in_ok-place-6.ensures.after c.in_ok-end.ensures.after in
    let same = plain_json-written _ _ _ _ c.args.params.now whole c.as_str-identifier.ensures c.format.ensures.text c.as_str-pw_nonce.ensures in
    let utf8 =
    utf8_seven _ _ _ _ _ _ _ (IsUtf8-are_ascii (codes "{\"identifier\":\"") refl) c.as_str-identifier.utf8 (IsUtf8-are_ascii (codes "\",\"pw_cost\":") refl)
    c.format.utf8 (IsUtf8-are_ascii (codes ",\"pw_nonce\":\"") refl) c.as_str-pw_nonce.utf8 (IsUtf8-are_ascii (codes "\",\"version\":\"003\"}") refl) in
    (IsParamsJson-plain c.args.params.now _ (subst IsUtf8 (sym whole) utf8) same identifier nonce, written_plainly c.args.params.now _ same identifier nonce)

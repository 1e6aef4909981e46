use Rattle.std.proofs.Common.{rules, ◌≡◌, ◌∙◌, sym, refl, true}
use Rattle.std.specs.List.{list_all}
use Rattle.sn_string.specs.Parameters.{is_plain}
use Rattle.sn_string.proofs.PlainFacts.{IsParamsJson-plain}
use Rattle.sn_string.proofs.plain_params.plain_json.Goals as goal

pub returns : goal.returns
returns c =
    let identifier : list_all is_plain c.in_ok-identifier.identifier.now ≡ true = search rules in
    let nonce : list_all is_plain c.in_ok-identifier.pw_nonce.now ≡ true = search rules in
    IsParamsJson-plain _ c.args.json.now c.in-Ok.ensures.cases.1 (sym c.in-Ok.ensures.cases.0 ∙ c.in_ok-identifier.ensures _ refl refl refl) identifier nonce

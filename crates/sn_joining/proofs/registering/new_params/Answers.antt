use Rattle.std.proofs.Common.{◌≡◌, ◌∙◌, rules, length, subst, sym}
use Rattle.sn_string.specs.Bounds.{IsIdentifier}
use Rattle.sn_joining.proofs.SetLemmas.{params_fit}
use Rattle.sn_joining.proofs.registering.new_params.Goals as goal

pub unreachable-requires : goal.unreachable-requires
unreachable-requires c =
    let long : length c.args.nonce.now ≡ 32 = search rules in
    let some = c.in_default.ensures.within.1 (params_fit c.in_ok-identifier.identifier c.of_string-nonce.result c.args.nonce.now c.args.cost
    (subst IsIdentifier (sym c.in_ok-identifier.ensures) c.requires.identifier) c.requires.cost (search rules)
    (c.of_string-nonce.ensures ∙ c.in_ok-hex_text.ensures.spelled) long) in
    absurd cc

use Rattle.std.proofs.Common.{◌∙◌, ap, decimal}
use Rattle.sn_string.proofs.PlainPieces.{plain_json-pieces}
use Rattle.sn_string.proofs.plain_params.pieces_of.Goals as goal

pub returns : goal.returns
returns c = λ params name cost seed.
    plain_json-pieces c.args.json.now c.in_ok-identifier.later.now c.in_ok-digits.last.now c.in_ok-end.end.now
    c.in_ok-identifier.identifier.now c.in_ok-digits.digits.now c.in_ok-pw_nonce.pw_nonce.now params
    c.in_ok-identifier.ensures c.in_ok-digits.ensures c.in_ok-end.ensures c.in_ok-pw_nonce.ensures
    name (c.in_ok-pw_cost.ensures ∙ ap decimal cost) seed

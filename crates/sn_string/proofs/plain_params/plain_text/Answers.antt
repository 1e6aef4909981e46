use Rattle.std.proofs.Common.{◌∙◌, ap, decimal}
use Rattle.sn_string.proofs.PlainPieces.{plain_json-written, pushed_seven}
use Rattle.sn_string.proofs.plain_params.plain_text.Goals as goal

pub returns : goal.returns
returns c = λ params name cost seed.
    plain_json-written _ _ _ _ params
    (pushed_seven _ _ _ _ _ _ _ _ _ _ _ _ _ _ _ c.in_ok-json.ensures.bytes c.in_ok-push_str.ensures.bytes c.in_ok-push_str-2.ensures.bytes c.in_ok-push_str-3.ensures.bytes
    c.in_ok-push_str-4.ensures.bytes c.in_ok-push_str-5.ensures.bytes c.in_ok-push_str-6.ensures.bytes c.in_ok-push_str-7.ensures.bytes)
    name (c.format.ensures.text ∙ ap decimal cost) seed

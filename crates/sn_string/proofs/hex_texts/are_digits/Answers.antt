use Rattle.std.proofs.Common.{arith, ◌≡◌, ◌∙◌, ◌*◌, ap, length, sym}
use Rattle.std.specs.List.{list_all}
use Rattle.sn_string.specs.Hex.{is_lower_digit}
use Rattle.sn_string.proofs.HexFacts.{digits_if_spelled, spelled_by_digits}
use Rattle.sn_string.proofs.hex_texts.are_digits.Goals as goal

pub returns-then-text-count : goal.returns-then-text-count
returns-then-text-count c = λ n is. (
  λ yes. absurd cc,
  λ spelled.
      let len : length c.args.text.now ≡ 2 * n = (digits_if_spelled n c.args.text.now spelled.0 spelled.1).0 in
      absurd (omega arith),
)

pub returns : goal.returns
returns c = λ n is.
    let same : c.are_lower.result ≡ list_all is_lower_digit c.args.text.now = c.are_lower.ensures ∙ ap (list_all is_lower_digit) c.as_bytes.ensures.value in
    let len : length c.args.text.now ≡ 2 * n = omega arith in (
      λ yes. spelled_by_digits n c.args.text.now len (sym same ∙ yes),
      λ spelled. same ∙ (digits_if_spelled n c.args.text.now spelled.0 spelled.1).1,
    )

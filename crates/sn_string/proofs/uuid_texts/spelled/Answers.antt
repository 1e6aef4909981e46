use Rattle.std.proofs.Common.{rules, ◌∙◌, ap}
use Rattle.uuid.specs.Text.{hyphenated_text, lower}
use Rattle.uuid.proofs.TextLemmas.{all_fit}
use Rattle.sn_string.proofs.uuid_texts.spelled.Goals as goal

pub returns : goal.returns
returns c = record {
  count = search rules;
  fit = all_fit _ (λ k _. c.fits-bytes k);
  spelled = c.encode_lower.ensures.text ∙ ap (hyphenated_text lower) (c.hyphenated.ensures ∙ c.from_bytes.ensures);
}

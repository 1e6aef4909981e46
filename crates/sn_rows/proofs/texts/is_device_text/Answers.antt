use Rattle.std.proofs.Common.{ap, ◌∙◌, List, ℕ}
use Rattle.sn_rows.specs.Bounds.{has_device_lengths, is_device_string}
use Rattle.sn_rows.proofs.TextLemmas.{device}
use Rattle.sn_rows.proofs.texts.is_device_text.Goals as goal

pub returns-clause-test : goal.returns-clause-test
returns-clause-test c =
    c.are_device_lengths.ensures.test
    ∙ ap (λ (t : List ℕ). has_device_lengths t) c.as_bytes.ensures.value
    ∙ device c.as_str-text.result.now c.as_str-text.utf8
    ∙ ap (λ (t : List ℕ). is_device_string t) c.as_str-text.ensures

use Rattle.std.proofs.Common.{◌-◌, length, take, drop, sym, ◌∙◌}
use Rattle.std.proofs.lemmas.List.{take_rest}
use Rattle.std.proofs.lemmas.Slice.Eq.{bytes_eq-Decides}
use Rattle.sn_journal.proofs.beginning.is_headless.Goals as goal

pub returns-in-len1-up : goal.returns-in-len1-up
returns-in-len1-up c =
    let bytes = c.args.bytes.now in
    let tests = bytes_eq-Decides (take (length bytes - 1) (drop 1 bytes)) c.as_slice.result.now in
    let names = c.as_slice.ensures ∙ c.after_first_byte.ensures in
    (λ yes. sym (take_rest bytes 1) ∙ tests.0 (sym c.eq.ensures ∙ yes) ∙ names, λ is. c.eq.ensures ∙ tests.1 (take_rest bytes 1 ∙ is ∙ sym names))

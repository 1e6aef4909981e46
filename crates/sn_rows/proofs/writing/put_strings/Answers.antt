use Rattle.std.proofs.Common.{◌<◌, ◌^◌, ℕ, List, length, sym, subst, ◌∙◌}
use Rattle.sn_rows.proofs.TextLemmas.{device_short}
use Rattle.sn_rows.proofs.writing.put_strings.Goals as goal

pub put_counted-requires : goal.put_counted-requires
put_counted-requires c = subst (λ (t : List ℕ). length t < 2 ^ 32) (sym (c.as_bytes.ensures.value ∙ c.as_str.ensures)) (device_short c.args.strings.now.content c.args.strings.now.content_fits)

pub put_counted-requires-2 : goal.put_counted-requires-2
put_counted-requires-2 c = subst (λ (t : List ℕ). length t < 2 ^ 32) (sym (c.as_bytes-2.ensures.value ∙ c.as_str-2.ensures)) (device_short c.args.strings.now.enc c.args.strings.now.enc_fits)

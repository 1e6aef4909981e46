use Rattle.std.proofs.Common.{◌∙◌, List, ℕ, ap, drop, arith}
use Rattle.std.specs.Prelude.{string_bytes}
use Rattle.sn_rows.proofs.TextLemmas.{cut_at, cut_behind}
use Rattle.sn_rows.proofs.server_rows.ItemRow.texts.Goals as goal

pub split_at-requires : goal.split_at-requires
split_at-requires c =
    cut_at (string_bytes c.self.inside.texts) c.as_str-texts.result.now c.self.inside.kind_len 0 255
    c.as_str-texts.ensures.value c.as_str-texts.utf8 (omega (arith, c.self.inside.lengths)) c.self.inside.kind_fits

pub split_at-requires-2 : goal.split_at-requires-2
split_at-requires-2 c =
    let texts = string_bytes c.self.inside.texts in
    let kind = c.self.inside.kind_len in
    cut_behind texts c.as_str-texts.result.now kind c.split_at.result.1.now c.self.inside.content_len
    c.as_str-texts.ensures.value c.as_str-texts.utf8 c.self.inside.lengths c.split_at.ensures.back
    c.self.inside.kind_fits c.self.inside.content_fits

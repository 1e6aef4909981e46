use Rattle.std.proofs.Common.{◌∙◌, sym, ap, ℕ, List, ◌+◌}
use Rattle.std.specs.Prelude.{count_by}
use Rattle.std.proofs.lemmas.List.Splits.{length-slice_split}
use Rattle.sn_string.specs.Grammar.{is_colon}
use Rattle.sn_string.proofs.reader.count_of.Goals as goal

abbrev more_than_colons : List ℕ → ℕ
more_than_colons text = count_by is_colon text + 1

pub returns : goal.returns
returns c =
    ap (λ n. n + 1) c.colons.ensures ∙ ap more_than_colons c.as_bytes.ensures.value ∙ sym (length-slice_split is_colon c.args.text.now)

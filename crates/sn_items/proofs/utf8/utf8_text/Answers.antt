use Rattle.std.proofs.Common.{◌≡◌, rules, string_bytes, subst}
use Rattle.std.specs.Str.{IsUtf8}
use Rattle.std.proofs.lemmas.Str.{IsUtf8-string_bytes}
use Rattle.sn_items.proofs.utf8.utf8_text.Goals as goal

pub returns-in-Ok-clause-ok : goal.returns-in-Ok-clause-ok
returns-in-Ok-clause-ok c =
    let same : string_bytes c.in-Ok.text ≡ c.args.bytes.items = search rules in (
      subst IsUtf8 same (IsUtf8-string_bytes c.in-Ok.text),
      same,
    )

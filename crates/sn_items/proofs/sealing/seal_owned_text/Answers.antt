use Rattle.std.proofs.Common.{string_bytes, rules}
use Rattle.std.proofs.lemmas.Str.{IsUtf8-string_bytes}
use Rattle.sn_cbc.specs.Cbc.{IsCbc}
use Rattle.sn_items.specs.Seals.{IsWrittenPart}
use Rattle.sn_items.proofs.sealing.seal_owned_text.Goals as goal

pub returns-clause-sealed : goal.returns-clause-sealed
returns-clause-sealed c =
    let cbc : IsCbc c.args.encryption_key.now c.iv-iv.result (string_bytes c.args.plain) c.deref.result.now = search rules in
    let last : IsWrittenPart c.deref-2.result.now c.args.params.now = record { written = search rules; reads = search rules } in (
      c.iv-iv.result,
      search rules,
      c.string_of.ensures.sealed c.args.encryption_key.now (string_bytes c.args.plain) c.args.params.now cbc last,
    )

pub returns-clause-opens : goal.returns-clause-opens
returns-clause-opens c =
    let cbc : IsCbc c.args.encryption_key.now c.iv-iv.result (string_bytes c.args.plain) c.deref.result.now = search rules in
    let last : IsWrittenPart c.deref-2.result.now c.args.params.now = record { written = search rules; reads = search rules } in
    c.string_of.ensures.opens c.args.encryption_key.now (string_bytes c.args.plain) c.args.params.now cbc last (IsUtf8-string_bytes c.args.plain)

pub returns-clause-carries : goal.returns-clause-carries
returns-clause-carries c =
    let cbc : IsCbc c.args.encryption_key.now c.iv-iv.result (string_bytes c.args.plain) c.deref.result.now = search rules in
    let last : IsWrittenPart c.deref-2.result.now c.args.params.now = record { written = search rules; reads = search rules } in
    c.string_of.ensures.carries c.args.encryption_key.now (string_bytes c.args.plain) c.args.params.now cbc last

use Rattle.std.proofs.Common.{rules, string_bytes}
use Rattle.sn_items.specs.Draws.{drawn}
use Rattle.sn_items.specs.Seals.{IsSealed}
use Rattle.sn_command.specs.Commands.{seal_line}
use Rattle.sn_cli.specs.Calls.{HasParams, encryption_half, authentication_half}
use Rattle.sn_cli.proofs.sealing.sealed_line.Goals as goal

pub returns : goal.returns
returns c =
    let params = c.in_ok-params.params in
    let text = string_bytes c.in_ok-line.line in
    let has : HasParams (seal_line c.args.item.now c.args.options.now) params = search rules in
    let sealed : IsSealed (string_bytes c.args.plain) c.args.item.now.uuid (drawn 16 c.args.words.now).0 (encryption_half c.args.item.now.key)
    (authentication_half c.args.item.now.key) params text = search rules in
    (params, has, text, sealed, search rules)

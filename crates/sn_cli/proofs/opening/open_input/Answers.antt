use Rattle.std.proofs.Common.{rules, subst, string_bytes}
use Rattle.sn_items.specs.Opens.{Opens}
use Rattle.sn_cli.specs.Calls.{OpenCallsFor, OpenRefuses, encryption_half, authentication_half}
use Rattle.sn_command.specs.Commands.{open_line}
use Rattle.sn_cli.specs.Inputs.{IsOneLine}
use Rattle.sn_cli.specs.Outputs.{Writes}
use Rattle.sn_cli.proofs.RunLemmas.{written}
use Rattle.sn_cli.proofs.opening.open_input.Goals as goal

pub returns-in-Ok-open_text-clause-ran : goal.returns-in-Ok-open_text-clause-ran
returns-in-Ok-open_text-clause-ran g c =
    let item = c.args.item.now in
    let text = string_bytes c.in-Ok.text in
    let plain = string_bytes c.in-Ok-open_text.plain in
    let one : IsOneLine text c.one_line-line.result.now = search rules in
    let opens : Opens c.one_line-line.result.now item.uuid (encryption_half item.key) (authentication_half item.key) plain = search rules in
    let called : OpenCallsFor (open_line item) text plain = record { text = c.one_line-line.result.now; one_line = one; opens = opens } in
    let wrote : Writes c.write_out.result (g.O.Sink.held c.args.out.now) (g.O.Sink.held c.write_out.new.out) plain =
    subst (Writes c.write_out.result (g.O.Sink.held c.args.out.now) (g.O.Sink.held c.write_out.new.out)) c.as_bytes.ensures.value
    c.write_out.ensures.wrote in
    written (OpenCallsFor (open_line item)) (OpenRefuses (open_line item)) c.write_out.result _ _ _ _ text plain c.in-Ok.ensures.ok called wrote

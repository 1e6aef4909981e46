use Rattle.std.proofs.Common.{subst, string_bytes}
use Rattle.sn_items.specs.Draws.{drawn}
use Rattle.sn_items.specs.Seals.{IsSealed}
use Rattle.sn_cli.specs.Calls.{SealCallsFor, SealRefuses, encryption_half, authentication_half}
use Rattle.sn_command.specs.Commands.{seal_line}
use Rattle.sn_cli.specs.Outputs.{Writes}
use Rattle.sn_cli.proofs.RunLemmas.{drawn_for_output, written}
use Rattle.sn_cli.proofs.sealing.seal_input.Goals as goal

pub returns-in-Ok-sealed_line-clause-ran : goal.returns-in-Ok-sealed_line-clause-ran
returns-in-Ok-sealed_line-clause-ran g c =
    let found = c.in-Ok-sealed_line.ensures in
    let item = c.args.item.now in
    let line = seal_line item c.args.params.now in
    let seed = c.draw.result in
    let plain = string_bytes c.in-Ok.plain in
    let output = string_bytes c.in-Ok-sealed_line.line in
    let called : SealCallsFor line seed plain output = record {
      params = found.0;
      has_params = found.1;
      text = found.2;
      sealed =
          subst (λ drawing. IsSealed plain item.uuid (drawn 16 drawing).0 (encryption_half item.key)
          (authentication_half item.key) found.0 found.2) c.from_seed-words.ensures found.3;
      ended = found.4;
    } in
    let wrote : Writes c.write_out.result (g.O.Sink.held c.args.out.now) (g.O.Sink.held c.write_out.new.out) output =
    subst (Writes c.write_out.result (g.O.Sink.held c.args.out.now) (g.O.Sink.held c.write_out.new.out)) c.as_bytes.ensures.value
    c.write_out.ensures.wrote in
    record {
      seed = seed;
      drew = drawn_for_output seed output c.write_out.result _ _ _ _ wrote c.draw.ensures;
      ran = written (SealCallsFor line seed) SealRefuses c.write_out.result _ _ _ _ plain output c.in-Ok.ensures.ok called wrote;
    }

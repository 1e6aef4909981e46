use Rattle.std.proofs.Common.{subst, string_bytes}
use Rattle.sn_cli.specs.Calls.{ShowRefuses}
use Rattle.sn_cli.specs.Outputs.{Writes}
use Rattle.sn_cli.specs.Shown.{IsShown}
use Rattle.sn_cli.proofs.RunLemmas.{written}
use Rattle.sn_string.specs.Grammar.{Is003}
use Rattle.sn_string.specs.Parts.{reading_of}
use Rattle.sn_cli.proofs.showing.show_input.Goals as goal

pub returns-in-Ok-lines-clause-ran : goal.returns-in-Ok-lines-clause-ran
returns-in-Ok-lines-clause-ran g c =
    let found = c.in-Ok-lines.ensures in
    let reading = reading_of c.in-Ok-read.parts in
    let text = string_bytes c.in-Ok.text in
    let lines = string_bytes c.in-Ok-lines.lines in
    let shown : IsShown text lines = record {
      reading = reading;
      reads = subst (λ t. Is003 t reading) c.deref.ensures c.in-Ok-read.ensures.ok;
      bytes = found.0;
      ciphertext = found.1;
      spelled = found.2;
    } in
    written IsShown ShowRefuses c.write_out.result _ _ _ _ text lines c.in-Ok.ensures.ok shown
    (subst (Writes c.write_out.result (g.O.Sink.held c.args.out.now) (g.O.Sink.held c.write_out.new.out)) c.as_bytes.ensures.value
    c.write_out.ensures.wrote)

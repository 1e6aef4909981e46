use Rattle.std.proofs.Common.{◌∙◌, subst, string_bytes}
use Rattle.sn_cli.specs.Calls.{ReplayCallsFor, ReplayRefuses}
use Rattle.sn_cli.specs.Outputs.{Writes}
use Rattle.sn_cli.proofs.RunLemmas.{written}
use Rattle.sn_script.specs.Scripts.{IsScript}
use Rattle.sn_cli.proofs.replaying.replay_input.Goals as goal

pub returns-in-Ok-report_of-clause-ran : goal.returns-in-Ok-report_of-clause-ran
returns-in-Ok-report_of-clause-ran g c =
    let text = string_bytes c.in-Ok.text in
    let lines = c.in-Ok-read_script.script.lines in
    let script : IsScript text lines = subst (λ t. IsScript t lines) c.deref.ensures c.in-Ok-read_script.ensures.ok in
    let called : ReplayCallsFor c.report_of.new.memory_shelf text c.in-Ok-report_of.report = c.in-Ok-report_of.ensures.carries text script in
    written (ReplayCallsFor c.report_of.new.memory_shelf) ReplayRefuses c.write_out.result _ _ _ _ text c.in-Ok-report_of.report c.in-Ok.ensures.ok called
    (subst (Writes c.write_out.result (g.O.Sink.held c.args.out.now) (g.O.Sink.held c.write_out.new.out)) (c.as_bytes.ensures.value ∙ c.as_str.ensures)
    c.write_out.ensures.wrote)

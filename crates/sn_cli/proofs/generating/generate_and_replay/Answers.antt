use Rattle.std.proofs.Common.{◌∙◌, subst}
use Rattle.sn_command.specs.Commands.{gen_line}
use Rattle.sn_cli.specs.Outputs.{Writes}
use Rattle.sn_cli.proofs.RunLemmas.{gen_written}
use Rattle.sn_cli.proofs.generating.generate_and_replay.Goals as goal

pub returns-in-Ok-clause-ran : goal.returns-in-Ok-clause-ran
returns-in-Ok-clause-ran g c =
    gen_written (gen_line c.args.options.now) c.generated_summary.new.memory_shelf c.write_out.result _ _ c.in-Ok.summary c.in-Ok.ensures.summed
    (subst (Writes c.write_out.result (g.O.Sink.held c.args.out.now) (g.O.Sink.held c.write_out.new.out)) (c.as_bytes.ensures.value ∙ c.as_str.ensures)
    c.write_out.ensures.wrote)

use Rattle.std.proofs.Common.{subst, ◌∙◌}
use Rattle.sn_io.specs.Streams.{Tells}
use Rattle.sn_status.proofs.lines.tell_place.Goals as goal

pub returns-in-Ok-clause-line_written : goal.returns-in-Ok-clause-line_written
returns-in-Ok-clause-line_written g c =
    subst (Tells (g.E.Sink.held c.args.err.now) (g.E.Sink.held c.put.new.err) (g.E.Sink.fault_count c.args.err.now) (g.E.Sink.fault_count c.put.new.err))
    (c.as_bytes.ensures.value ∙ c.in-Ok.ensures) c.put.ensures

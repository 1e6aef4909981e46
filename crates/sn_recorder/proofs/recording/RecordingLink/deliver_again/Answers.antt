use Rattle.sn_recorder.proofs.Exchanging.{ok_gains}
use Rattle.sn_recorder.proofs.recording.RecordingLink.deliver_again.Goals as goal

pub returns-in-Ok-clause-gains : goal.returns-in-Ok-clause-gains
returns-in-Ok-clause-gains c =
    ok_gains c.args.self.now c.delivered.new.self c.deliver_again.new.self c.args.request.now c.in-Ok.answer.items c.delivered.result c.in-Ok.ensures.again c.delivered.ensures.link
    c.delivered.ensures.answer c.delivered.ensures.gained

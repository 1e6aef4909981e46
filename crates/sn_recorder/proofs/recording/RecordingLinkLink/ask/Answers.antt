use Rattle.std.proofs.Common.{refl}
use Rattle.sn_recorder.proofs.Exchanging.{records_one}
use Rattle.sn_recorder.proofs.recording.RecordingLinkLink.ask.Goals as goal

pub returns-clause-asks : goal.returns-clause-asks
returns-clause-asks c =
    records_one c.args.self.now _ c.record.new.self _ c.ask-answer.ensures.asks refl refl refl c.record.ensures.link c.record.ensures.before c.record.ensures.recorded

use Rattle.std.proofs.Common.{refl}
use Rattle.sn_recorder.proofs.Exchanging.{records_none}
use Rattle.sn_recorder.proofs.recording.RecordingLinkLink.aim.Goals as goal

pub returns-clause-asks : goal.returns-clause-asks
returns-clause-asks c = records_none c.args.self.now _ c.aim.ensures.asks refl refl refl

use Rattle.sn_course.proofs.StageLemmas.{recounts_go}
use Rattle.sn_course.proofs.laws.recounts_go.Goals as goal

pub returns : goal.returns
returns c = recounts_go

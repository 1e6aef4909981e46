use Rattle.sn_course.proofs.StageLemmas.{recounts_more}
use Rattle.sn_course.proofs.laws.recounts_more.Goals as goal

pub returns : goal.returns
returns c = recounts_more

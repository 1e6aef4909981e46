use Rattle.sn_course.proofs.StageLemmas.{goes_more}
use Rattle.sn_course.proofs.laws.goes_more.Goals as goal

pub returns : goal.returns
returns c = goes_more

use Rattle.sn_course.proofs.StageLemmas.{reporting_more}
use Rattle.sn_course.proofs.laws.reporting_more.Goals as goal

pub returns : goal.returns
returns c = reporting_more
